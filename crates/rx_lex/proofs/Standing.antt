-- Words before a blank, at the end, before a name, and the marks that nothing makes longer: by the last byte of the longer marks.
use Rattle.std.proofs.Common.{◌≡◌, ℕ, Bool, true, false, List, [], ◌∷◌, ◌++◌, length, refl, sym, ap, ◌∙◌, arith, inl, inr, length-append}
use Rattle.std.specs.Prelude.{◌==◌, ◌&&◌, ◌||◌, not, nat_le, codes}
use Rattle.std.proofs.lemmas.Bool.{and_from, and_left, and_right, or_cases, or_parts, not-true, not_from_false, false≢true, leb-true, eqb-true, both_ways, false_from_ne_true, or_from}
use Rattle.rx_core.specs.Bytes.{same_bytes, is_one_of}
use Rattle.rx_lex.specs.declared.token.Class.{Class}
use Rattle.rx_lex.specs.Words.{IsWord, identifier, keyword, lifetime, number, format, mark, goes_on, marks}
use Rattle.rx_lex.specs.Tokens.{is_blank}
use Rattle.rx_lex.specs.Stands.{makes_longer, makes_comment, stands_alone, stands}
use Rattle.rx_lex.proofs.FirstBytes.{one_of_all}
use Rattle.rx_lex.proofs.Names.{opens}

-- whether the byte makes no mark longer and begins no comment behind a `/`
abbrev pub is_apart : ℕ → Bool
is_apart d = not ((d == 62) || ((d == 61) || ((d == 58) || ((d == 38) || ((d == 124) || ((d == 42) || (d == 47)))))))

abbrev last : List ℕ → ℕ
last [] = 0
last (c ∷ []) = c
last (c ∷ d ∷ cs) = last (d ∷ cs)

last-push : (w : List ℕ) (d : ℕ) → last (w ++ (d ∷ [])) ≡ d
last-push [] d = refl
last-push (a ∷ []) d = refl
last-push (a ∷ b ∷ w) d = last-push (b ∷ w) d

abbrev ends_near : List ℕ → Bool
ends_near w = nat_le (length w) 1 || not (is_apart (last w))

not_longer : (w : List ℕ) (d : ℕ) (r : List ℕ) → is_one_of w marks ≡ true → is_apart d ≡ true → makes_longer w (d ∷ r) ≡ false
not_longer [] d r i a = absurd (false≢true i)
not_longer (c ∷ w) d r i a = false_from_ne_true (is_one_of ((c ∷ w) ++ (d ∷ [])) marks) (λ h.
    elim (or_cases (nat_le (length ((c ∷ w) ++ (d ∷ []))) 1) (not (is_apart (last ((c ∷ w) ++ (d ∷ []))))) (one_of_all ends_near ((c ∷ w) ++ (d ∷ [])) marks refl h)) [
      | inl s ↦ let n = leb-true (length ((c ∷ w) ++ (d ∷ []))) 1 s in absurd (omega (arith, length-append w (d ∷ [])))
      | inr s ↦ both_ways (is_apart d) (ap is_apart (sym (last-push (c ∷ w) d)) ∙ not-true (is_apart (last ((c ∷ w) ++ (d ∷ [])))) s) a
    ])

no_comment : (d : ℕ) (r : List ℕ) → is_apart d ≡ true → makes_comment (d ∷ r) ≡ false
no_comment d r a =
    let p = or_parts (d == 62) ((d == 61) || ((d == 58) || ((d == 38) || ((d == 124) || ((d == 42) || (d == 47)))))) (not-true ((d == 62) || ((d == 61) || ((d == 58) || ((d == 38) || ((d == 124) || ((d == 42) || (d == 47))))))) a) in
    let q = or_parts (d == 61) ((d == 58) || ((d == 38) || ((d == 124) || ((d == 42) || (d == 47))))) p.1 in
    let s = or_parts (d == 58) ((d == 38) || ((d == 124) || ((d == 42) || (d == 47)))) q.1 in
    let t = or_parts (d == 38) ((d == 124) || ((d == 42) || (d == 47))) s.1 in
    (or_parts (d == 124) ((d == 42) || (d == 47)) t.1).1

-- a mark before a byte that makes none longer; behind `_` no character of an identifier
pub mark_before : (w : List ℕ) (d : ℕ) (r : List ℕ) → is_one_of w marks ≡ true → is_apart d ≡ true → (same_bytes w (codes "_") && goes_on (d ∷ r)) ≡ false
    → stands_alone w (d ∷ r) ≡ true
mark_before w d r i a e =
    and_from (not (makes_longer w (d ∷ r))) (not (same_bytes w (codes "_") && goes_on (d ∷ r)) && not (same_bytes w (codes "/") && makes_comment (d ∷ r)))
    (not_from_false (makes_longer w (d ∷ r)) (not_longer w d r i a))
    (and_from (not (same_bytes w (codes "_") && goes_on (d ∷ r))) (not (same_bytes w (codes "/") && makes_comment (d ∷ r)))
    (not_from_false (same_bytes w (codes "_") && goes_on (d ∷ r)) e)
    (not_from_false (same_bytes w (codes "/") && makes_comment (d ∷ r)) (and_right (same_bytes w (codes "/")) (makes_comment (d ∷ r)) (no_comment d r a))))

near_by : (P : ℕ → Bool) (d : ℕ) → P d ≡ true → P 62 ≡ false → P 61 ≡ false → P 58 ≡ false → P 38 ≡ false → P 124 ≡ false → P 42 ≡ false → P 47 ≡ false → is_apart d ≡ true
near_by P d e p q r s t u v =
    let no : (n : ℕ) → P n ≡ false → (d == n) ≡ false = λ n f. false_from_ne_true (d == n) (λ h. both_ways (P d) (ap P (eqb-true d n h) ∙ f) e) in
    not_from_false ((d == 62) || ((d == 61) || ((d == 58) || ((d == 38) || ((d == 124) || ((d == 42) || (d == 47)))))))
    (or_from (d == 62) ((d == 61) || ((d == 58) || ((d == 38) || ((d == 124) || ((d == 42) || (d == 47)))))) (no 62 p)
    (or_from (d == 61) ((d == 58) || ((d == 38) || ((d == 124) || ((d == 42) || (d == 47))))) (no 61 q)
    (or_from (d == 58) ((d == 38) || ((d == 124) || ((d == 42) || (d == 47)))) (no 58 r)
    (or_from (d == 38) ((d == 124) || ((d == 42) || (d == 47))) (no 38 s)
    (or_from (d == 124) ((d == 42) || (d == 47)) (no 124 t)
    (or_from (d == 42) (d == 47) (no 42 u) (no 47 v)))))))

pub opens_is_apart : (d : ℕ) → opens d ≡ true → is_apart d ≡ true
opens_is_apart d e = near_by opens d e refl refl refl refl refl refl refl

pub blank_is_apart : (d : ℕ) → is_blank d ≡ true → is_apart d ≡ true
blank_is_apart d e = near_by is_blank d e refl refl refl refl refl refl refl

-- a mark other than `_` before a name, a keyword or a number
pub mark_before_word : (w : List ℕ) (d : ℕ) (r : List ℕ) → is_one_of w marks ≡ true → same_bytes w (codes "_") ≡ false → opens d ≡ true
    → stands_alone w (d ∷ r) ≡ true
mark_before_word w d r i n e = mark_before w d r i (opens_is_apart d e) (and_left (same_bytes w (codes "_")) (goes_on (d ∷ r)) n)

blank_ends : (d : ℕ) (r : List ℕ) → is_blank d ≡ true → goes_on (d ∷ r) ≡ false
blank_ends d r e =
    elim (or_cases ((d == 32) || (d == 9) || (d == 10)) (d == 13) e) [
      | inl h ↦ elim (or_cases ((d == 32) || (d == 9)) (d == 10) h) [
        | inl h ↦ elim (or_cases (d == 32) (d == 9) h) [
          | inl h ↦ ap (λ c. goes_on (c ∷ r)) (eqb-true d 32 h)
          | inr h ↦ ap (λ c. goes_on (c ∷ r)) (eqb-true d 9 h)
        ]
        | inr h ↦ ap (λ c. goes_on (c ∷ r)) (eqb-true d 10 h)
      ]
      | inr h ↦ ap (λ c. goes_on (c ∷ r)) (eqb-true d 13 h)
    ]

-- any word before a blank
pub stands_before_blank : {c : Class} {w : List ℕ} (d : ℕ) (r : List ℕ) → IsWord c w → is_blank d ≡ true → stands c w (d ∷ r) ≡ true
stands_before_blank d r (identifier i) e = not_from_false (goes_on (d ∷ r)) (blank_ends d r e)
stands_before_blank d r (keyword i) e = not_from_false (goes_on (d ∷ r)) (blank_ends d r e)
stands_before_blank d r (lifetime i b) e = not_from_false (goes_on (d ∷ r)) (blank_ends d r e)
stands_before_blank d r (number i b) e = not_from_false (goes_on (d ∷ r)) (blank_ends d r e)
stands_before_blank d r (format i) e = refl
stands_before_blank d r (mark {w = w} i) e = mark_before w d r i (blank_is_apart d e) (and_right (same_bytes w (codes "_")) (goes_on (d ∷ r)) (blank_ends d r e))

-- any word at the end of the text
pub stands_at_end : {c : Class} {w : List ℕ} → IsWord c w → stands c w [] ≡ true
stands_at_end (identifier i) = refl
stands_at_end (keyword i) = refl
stands_at_end (lifetime i b) = refl
stands_at_end (number i b) = refl
stands_at_end (format i) = refl
stands_at_end (mark {w = w} i) =
    and_from (not (same_bytes w (codes "_") && false)) (not (same_bytes w (codes "/") && false))
    (not_from_false (same_bytes w (codes "_") && false) (and_right (same_bytes w (codes "_")) false refl))
    (not_from_false (same_bytes w (codes "/") && false) (and_right (same_bytes w (codes "/")) false refl))

-- the marks that no byte makes longer
abbrev pub whole_marks : List (List ℕ)
whole_marks =
    codes "->" ∷ codes "=>" ∷ codes "::" ∷ codes "==" ∷ codes "!=" ∷ codes "<=" ∷ codes ">=" ∷ codes "&&" ∷ codes "||"
    ∷ codes "+=" ∷ codes "-=" ∷ codes "*=" ∷ codes "/=" ∷ codes "%="
    ∷ codes "(" ∷ codes ")" ∷ codes "{" ∷ codes "}" ∷ codes "[" ∷ codes "]" ∷ codes "," ∷ codes ";" ∷ codes "." ∷ codes "#" ∷ []

pub whole_mark_stands : (w r : List ℕ) → is_one_of w whole_marks ≡ true → stands_alone w r ≡ true
whole_mark_stands w [] e = one_of_all (λ v. stands_alone v []) w whole_marks refl e
whole_mark_stands w (d ∷ r) e = one_of_all (λ v. stands_alone v (d ∷ r)) w whole_marks refl e

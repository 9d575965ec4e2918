-- A text begins with at most one blank or comment, and scanning from the left finds it: by induction on what is balanced, and on the text.
use Rattle.std.proofs.Common.{◌≡◌, ℕ, ◌+◌, zero, suc, ◌≤◌, ◌<◌, true, false, cond, List, [], ◌∷◌, ◌++◌, length, length-append, append_assoc, take, drop, get_or, Option, Some, None, refl, sym, ap, subst, ◌∙◌, arith, inl, inr}
use Rattle.std.specs.Prelude.{◌==◌, ◌&&◌, ◌||◌, not}
use Rattle.std.specs.List.{list_all}
use Rattle.std.specs.Str.{IsUtf8}
use Rattle.std.proofs.lemmas.Bool.{and_parts, or_cases, or_parts, or_from, not-true, eqb-true, cases_Bool, cond-true, cond-false}
use Rattle.std.proofs.lemmas.List.{drop-drop}
use Rattle.std.proofs.lemmas.Str.{IsUtf8-nil, IsUtf8-drop, IsCharBoundary-before_ascii, IsCharBoundary-after_ascii}
use Rattle.std.proofs.Math.Seq.{take-append_seam}
use Rattle.rx_lex.specs.Tokens.{slashes, Gap, blank, line_comment, block_comment, is_blank, opening, closing, at_line_end, begins_pair, Balanced, nothing, plain, nested}
use Rattle.rx_lex.specs.Scan.{line_rest, block_rest, comment_rest, gap_rest}

-- ---- block comments

plain_step : (n c : ℕ) (t : List ℕ) → begins_pair (c ∷ t) ≡ false → block_rest n (c ∷ t) ≡ block_rest n t
plain_step n c [] e = refl
plain_step n c (d ∷ t) e = let p = or_parts ((c == 47) && (d == 42)) ((c == 42) && (d == 47)) e in rw (p.0, p.1)

balanced_rest : {t u : List ℕ} → Balanced t u → (n : ℕ) → block_rest n t ≡ block_rest n u
balanced_rest nothing n = refl
balanced_rest (plain {c = c} {t = t} e b) n = plain_step n c t e ∙ balanced_rest b n
balanced_rest (nested b d) n = balanced_rest b (suc n) ∙ balanced_rest d n

-- t closes n comments and one more, and then comes r
abbrev Closes : ℕ → List ℕ → List ℕ → Type 0
Closes zero t r = Balanced t (closing ++ r)
Closes (suc n) t r = (u : List ℕ) × Balanced t (closing ++ u) × Closes n u r

closes_plain : (n c : ℕ) (t r : List ℕ) → begins_pair (c ∷ t) ≡ false → Closes n t r → Closes n (c ∷ t) r
closes_plain zero c t r e b = plain e b
closes_plain (suc n) c t r e h = (h.0, plain e h.1, h.2)

closes_nested : (n : ℕ) (t r : List ℕ) → Closes (suc n) t r → Closes n (opening ++ t) r
closes_nested zero t r h = nested h.1 h.2
closes_nested (suc n) t r h = let k = h.2 in (k.0, nested h.1 k.1, k.2)

closes_rest : (n : ℕ) (t r : List ℕ) → block_rest n t ≡ Some r → Closes n t r
closes_rest n [] r e = absurd (cc)
closes_rest n (c ∷ []) r e = absurd (cc)
closes_rest n (c ∷ d ∷ t) r e =
    elim (cases_Bool ((c == 47) && (d == 42))) [
      | inl h ↦
          let p = and_parts (c == 47) (d == 42) h in
          opens n c d t r (eqb-true c 47 p.0) (eqb-true d 42 p.1) (closes_nested n t r (closes_rest (suc n) t r (rw h at e)))
      | inr h ↦ elim (cases_Bool ((c == 42) && (d == 47))) [
        | inl k ↦
            let p = and_parts (c == 42) (d == 47) k in
            ends n c d t r (eqb-true c 42 p.0) (eqb-true d 47 p.1) (rw (h, k) at e) (λ m f. closes_rest m t r f)
        | inr k ↦ closes_plain n c (d ∷ t) r (or_from ((c == 47) && (d == 42)) ((c == 42) && (d == 47)) h k) (closes_rest n (d ∷ t) r (rw (h, k) at e))
      ]
    ]
  where
    opens : (n c d : ℕ) (t r : List ℕ) → c ≡ 47 → d ≡ 42 → Closes n (opening ++ t) r → Closes n (c ∷ d ∷ t) r
    opens n c d t r p q h = let s : opening ++ t ≡ c ∷ d ∷ t = cc in subst (λ l. Closes n l r) s h

    ends : (n c d : ℕ) (t r : List ℕ) → c ≡ 42 → d ≡ 47 → elim n as (λ _. Option (List ℕ)) [ zero ↦ Some t | suc m ↦ block_rest m t ] ≡ Some r
        → ((m : ℕ) → block_rest m t ≡ Some r → Closes m t r) → Closes n (c ∷ d ∷ t) r
    ends zero c d t r p q e f = let s : closing ++ r ≡ c ∷ d ∷ t = cc in subst (λ l. Balanced l (closing ++ r)) s nothing
    ends (suc m) c d t r p q e f = let s : closing ++ t ≡ c ∷ d ∷ t = cc in (t, subst (λ l. Balanced l (closing ++ t)) s nothing, f m e)

-- ---- comments to the end of the line

line_ends : (u r : List ℕ) → list_all (λ c. not (c == 10)) u ≡ true → at_line_end r ≡ true → line_rest (u ++ r) ≡ r
line_ends [] [] a e = refl
line_ends [] (c ∷ cs) a e = cond-true (c == 10) (c ∷ cs) (line_rest cs) e
line_ends (c ∷ u) r a e =
    let p = and_parts (not (c == 10)) (list_all (λ c. not (c == 10)) u) a in
    cond-false (c == 10) (c ∷ (u ++ r)) (line_rest (u ++ r)) (not-true (c == 10) p.0) ∙ line_ends u r p.1 e

-- the line's bytes up to its end
abbrev line_of : List ℕ → List ℕ
line_of [] = []
line_of (c ∷ cs) = cond (c == 10) [] (c ∷ line_of cs)

line_splits : (t : List ℕ) → t ≡ line_of t ++ line_rest t
line_splits [] = refl
line_splits (c ∷ cs) = elim (c == 10) as (λ b. c ∷ cs ≡ cond b [] (c ∷ line_of cs) ++ cond b (c ∷ cs) (line_rest cs)) [
  | true ↦ refl
  | false ↦ ap (λ l. c ∷ l) (line_splits cs)
]

line_clean : (t : List ℕ) → list_all (λ c. not (c == 10)) (line_of t) ≡ true
line_clean [] = refl
line_clean (c ∷ cs) = elim (cases_Bool (c == 10)) [
  | inl h ↦ rw h
  | inr h ↦ rw (h, h) (line_clean cs)
]

line_stops : (t : List ℕ) → at_line_end (line_rest t) ≡ true
line_stops [] = refl
line_stops (c ∷ cs) = elim (cases_Bool (c == 10)) [
  | inl h ↦ rw (h, h)
  | inr h ↦ rw h (line_stops cs)
]

-- ---- gaps

slash_no_blank : is_blank 47 ≡ false
slash_no_blank = refl

pub gap_found : {t r : List ℕ} → Gap t r → gap_rest t ≡ Some r
gap_found (blank {c = c} {r = r} e) = rw e
gap_found (line_comment u {r = r} a b e) = ap gap_rest e ∙ ap (λ (l : List ℕ). Some l) (line_ends u r a b)
gap_found (block_comment b) = balanced_rest b 0

comment_is : (c : ℕ) (t r : List ℕ) → c ≡ 47 → comment_rest t ≡ Some r → Gap (c ∷ t) r
comment_is c [] r h e = absurd (cc)
comment_is c (d ∷ t) r h e =
    elim (cases_Bool (d == 47)) [
      | inl k ↦ line_is c d t r h (eqb-true d 47 k) (rw k at e)
      | inr k ↦ elim (cases_Bool (d == 42)) [
        | inl m ↦ block_is c d t r h (eqb-true d 42 m) (rw (k, m) at e)
        | inr m ↦ let f : None ≡ Some r = rw (k, m) at e in absurd (cc)
      ]
    ]
  where
    line_is : (c d : ℕ) (t r : List ℕ) → c ≡ 47 → d ≡ 47 → Some (line_rest t) ≡ Some r → Gap (c ∷ d ∷ t) r
    line_is c d t r p q e =
        let s : line_rest t ≡ r = cc in
        let k : c ∷ d ∷ t ≡ 47 ∷ 47 ∷ t = cc in
        line_comment (line_of t) (line_clean t) (ap at_line_end (sym s) ∙ line_stops t) (k ∙ ap (λ l. 47 ∷ 47 ∷ l) (line_splits t ∙ ap (λ l. line_of t ++ l) s))

    block_is : (c d : ℕ) (t r : List ℕ) → c ≡ 47 → d ≡ 42 → block_rest 0 t ≡ Some r → Gap (c ∷ d ∷ t) r
    block_is c d t r p q e = let s : opening ++ t ≡ c ∷ d ∷ t = cc in subst (λ l. Gap l r) s (block_comment (closes_rest 0 t r e))

pub gap_is : (t r : List ℕ) → gap_rest t ≡ Some r → Gap t r
gap_is [] r e = absurd (cc)
gap_is (c ∷ t) r e =
    elim (cases_Bool (is_blank c)) [
      | inl h ↦ blank_is c t r h (rw h at e)
      | inr h ↦ elim (cases_Bool (c == 47)) [
        | inl k ↦ comment_is c t r (eqb-true c 47 k) (rw (h, k) at e)
        | inr k ↦ let f : None ≡ Some r = rw (h, k) at e in absurd (cc)
      ]
    ]
  where
    blank_is : (c : ℕ) (t r : List ℕ) → is_blank c ≡ true → Some t ≡ Some r → Gap (c ∷ t) r
    blank_is c t r h e = let s : t ≡ r = cc in subst (λ l. Gap (c ∷ t) l) s (blank h)

-- one gap at most, with one end
pub gap_one : {t r q : List ℕ} → Gap t r → Gap t q → r ≡ q
gap_one {t} {r} {q} a b = let e : Some r ≡ Some q = sym (gap_found a) ∙ gap_found b in cc

pub gap_none : (t : List ℕ) → gap_rest t ≡ None → (q : List ℕ) → Gap t q → ⊥
gap_none t e q g = let f : Some q ≡ None = sym (gap_found g) ∙ e in cc

-- ---- gaps are not empty

balanced_shorter : {t u : List ℕ} → Balanced t u → length u ≤ length t
balanced_shorter nothing = omega arith
balanced_shorter (plain e b) = let h = balanced_shorter b in omega arith
balanced_shorter (nested b d) = let h = balanced_shorter b in let k = balanced_shorter d in omega arith

pub gap_shorter : {t r : List ℕ} → Gap t r → length r < length t
gap_shorter (blank e) = omega arith
gap_shorter (line_comment u {r = r} a b e) = omega (arith, ap length e, length-append u r)
gap_shorter (block_comment b) = let h = balanced_shorter b in omega arith

-- ---- a gap is the front of its text

abbrev Ends : List ℕ → List ℕ → Type 0
Ends t r = (u : List ℕ) × (t ≡ u ++ r)

balanced_front : {t u : List ℕ} → Balanced t u → Ends t u
balanced_front nothing = ([], refl)
balanced_front (plain {c = c} e b) = let p = balanced_front b in (c ∷ p.0, ap (λ l. c ∷ l) p.1)
balanced_front (nested {u = u} {r = r} b d) =
    let p = balanced_front b in
    let q = balanced_front d in (
      opening ++ (p.0 ++ (closing ++ q.0)),
      ap (λ l. opening ++ l) (p.1 ∙ (ap (λ l. p.0 ++ (closing ++ l)) q.1 ∙ sym (append_assoc p.0 (closing ++ q.0) r))),
    )

gap_ends : {t r : List ℕ} → Gap t r → Ends t r
gap_ends (blank {c = c} e) = (c ∷ [], refl)
gap_ends (line_comment u {r = r} a b e) = (slashes ++ u, e)
gap_ends (block_comment {r = r} b) =
    let p = balanced_front b in
    (opening ++ (p.0 ++ closing), ap (λ l. opening ++ l) (p.1 ∙ sym (append_assoc p.0 closing r)))

front_take : (n : ℕ) (t u r : List ℕ) → t ≡ u ++ r → length t ≡ n + length r → t ≡ take n t ++ r
front_take n t u r e l =
    let k : length u ≡ n = omega (arith, ap length e, length-append u r) in
    let f : take n t ≡ u = ap (λ x. take n x) e ∙ (ap (λ m. take m (u ++ r)) (sym k) ∙ take-append_seam u r) in
    e ∙ ap (λ l. l ++ r) (sym f)

pub gap_front : {t r : List ℕ} (n : ℕ) → Gap t r → length t ≡ n + length r → t ≡ take n t ++ r
gap_front {t} {r} n g l = let p = gap_ends g in front_take n t p.0 r p.1 l

-- ---- a gap ends where a character does

at_seam : (xs : List ℕ) (b : ℕ) (r : List ℕ) → get_or (xs ++ (b ∷ r)) (length xs) 0 ≡ b
at_seam [] b r = refl
at_seam (x ∷ xs) b r = at_seam xs b r

from_seam : (xs r : List ℕ) → drop (length xs) (xs ++ r) ≡ r
from_seam [] r = refl
from_seam (x ∷ xs) r = from_seam xs r

-- behind a byte of ASCII, and before one
utf8_behind : (xs : List ℕ) (b : ℕ) (r : List ℕ) → b < 128 → IsUtf8 (xs ++ (b ∷ r)) → IsUtf8 r
utf8_behind xs b r h u =
    let n : length xs < length (xs ++ (b ∷ r)) = omega (arith, length-append xs (b ∷ r)) in
    let e : drop (length xs + 1) (xs ++ (b ∷ r)) ≡ r = sym (drop-drop 1 (length xs) (xs ++ (b ∷ r))) ∙ ap (drop 1) (from_seam xs (b ∷ r)) in
    subst IsUtf8 e (IsUtf8-drop (xs ++ (b ∷ r)) (length xs + 1) u
    (IsCharBoundary-after_ascii (xs ++ (b ∷ r)) (length xs) u n (subst (λ x. x < 128) (sym (at_seam xs b r)) h)))

utf8_before : (xs : List ℕ) (b : ℕ) (r : List ℕ) → b < 128 → IsUtf8 (xs ++ (b ∷ r)) → IsUtf8 (b ∷ r)
utf8_before xs b r h u =
    let n : length xs < length (xs ++ (b ∷ r)) = omega (arith, length-append xs (b ∷ r)) in
    subst IsUtf8 (from_seam xs (b ∷ r)) (IsUtf8-drop (xs ++ (b ∷ r)) (length xs) u
    (IsCharBoundary-before_ascii (xs ++ (b ∷ r)) (length xs) n (subst (λ x. x < 128) (sym (at_seam xs b r)) h)))

line_end_utf8 : (xs r : List ℕ) → at_line_end r ≡ true → IsUtf8 (xs ++ r) → IsUtf8 r
line_end_utf8 xs [] e u = IsUtf8-nil
line_end_utf8 xs (c ∷ r) e u = let h : c ≡ 10 = eqb-true c 10 e in utf8_before xs c r (omega arith) u

low_blank : (c : ℕ) → is_blank c ≡ true → c < 128
low_blank c e =
    elim (or_cases ((c == 32) || (c == 9) || (c == 10)) (c == 13) e) [
      | inl h ↦ elim (or_cases ((c == 32) || (c == 9)) (c == 10) h) [
        | inl h ↦ elim (or_cases (c == 32) (c == 9) h) [
          | inl h ↦ let m : c ≡ 32 = eqb-true c 32 h in omega arith
          | inr h ↦ let m : c ≡ 9 = eqb-true c 9 h in omega arith
        ]
        | inr h ↦ let m : c ≡ 10 = eqb-true c 10 h in omega arith
      ]
      | inr h ↦ let m : c ≡ 13 = eqb-true c 13 h in omega arith
    ]

closed_utf8 : (u xs r : List ℕ) → u ≡ xs ++ (closing ++ r) → IsUtf8 (opening ++ u) → IsUtf8 r
closed_utf8 u xs r e v =
    let f : opening ++ u ≡ (opening ++ (xs ++ (42 ∷ []))) ++ (47 ∷ r) = ap (λ l. opening ++ l) (e ∙ sym (append_assoc xs (42 ∷ []) (47 ∷ r))) in
    utf8_behind (opening ++ (xs ++ (42 ∷ []))) 47 r (omega arith) (subst IsUtf8 f v)

pub gap_utf8 : {t r : List ℕ} → Gap t r → IsUtf8 t → IsUtf8 r
gap_utf8 (blank {c = c} {r = r} e) u = utf8_behind [] c r (low_blank c e) u
gap_utf8 (line_comment v {r = r} a b e) u = line_end_utf8 (slashes ++ v) r b (subst IsUtf8 e u)
gap_utf8 (block_comment {u = u} {r = r} b) v = let p = balanced_front b in closed_utf8 u p.0 r p.1 v

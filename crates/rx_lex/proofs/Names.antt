-- Texts whose characters may stand in an identifier, and names: by their characters, which for ASCII are the bytes.
use Rattle.std.proofs.Common.{◌≡◌, ℕ, suc, ◌≤◌, ◌<◌, Bool, true, false, List, [], ◌∷◌, ◌++◌, length, take, drop, refl, sym, ap, subst, ◌∙◌, arith, inl, inr}
use Rattle.std.specs.Prelude.{◌≢◌, ◌==◌, ◌&&◌, ◌||◌, ◌⊎◌, if◌then◌else◌, nat_le, slice_index_or, encode_utf8_all}
use Rattle.std.specs.List.{list_all}
use Rattle.std.specs.Char.{is_ascii}
use Rattle.std.specs.Str.{chars, is_utf8, IsUtf8, IsAscii}
use Rattle.std.proofs.lemmas.Bool.{and_parts, and_from, or_cases, or_left, or_right, leb-true, leb-false, ltb-true, lt-ltb, eqb-true, both_ways, false≢true, false_from_ne_true}
use Rattle.std.proofs.lemmas.List.Sums.{AllPass-from_list_all}
use Rattle.std.proofs.lemmas.Str.{chars-nil, chars-append, chars-IsAscii, encodes-chars, IsUtf8-from_ascii, IsUtf8-from_is_utf8, is_utf8-from_IsUtf8, IsUtf8-drop, IsCharBoundary-from_take}
use Rattle.std.proofs.lemmas.Str.Ascii.{IsAscii-nil, IsAscii-cons, IsAscii-from_all, All-from_ascii}
use Rattle.unicode_ident.specs.Ident.{is_xid_start, is_xid_continue}
use Rattle.unicode_ident.proofs.IdentLemmas.{is_xid_start-is_xid_continue}
use Rattle.unicode_normalization.specs.Forms.{IsInForm, Nfc, is_nfc}
use Rattle.unicode_normalization.proofs.FormsLemmas.{is_in_form-true, is_in_form_from, normalize-ascii}
use Rattle.rx_lex.specs.Numerals.{is_digit}
use Rattle.rx_lex.specs.Words.{is_letter, is_ascii_start, is_ascii_continue, is_start, is_continue, spells_name, is_name, begins_continue, goes_on}
use Rattle.rx_lex.proofs.FirstBytes.{first, all_more}

-- ---- characters below 128

pub low_continue : (c : ℕ) → is_ascii_continue c ≡ true → is_ascii c ≡ true
low_continue c e =
    below (elim (or_cases (is_ascii_start c) (is_digit c) e) [
      | inl h ↦ elim (or_cases (is_letter c) (c == 95) h) [
        | inl l ↦ elim (or_cases (nat_le 97 c && nat_le c 122) (nat_le 65 c && nat_le c 90) l) [
          | inl k ↦ let m : c ≤ 122 = leb-true c 122 (and_parts (nat_le 97 c) (nat_le c 122) k).1 in omega arith
          | inr k ↦ let m : c ≤ 90 = leb-true c 90 (and_parts (nat_le 65 c) (nat_le c 90) k).1 in omega arith
        ]
        | inr l ↦ let m : c ≡ 95 = eqb-true c 95 l in omega arith
      ]
      | inr h ↦ let m : c ≤ 57 = leb-true c 57 (and_parts (nat_le 48 c) (nat_le c 57) h).1 in omega arith
    ])
  where
    below : {c : ℕ} → c < 128 → is_ascii c ≡ true
    below {c} h = lt-ltb c 128 h

pub continue_ascii : (c : ℕ) → is_ascii_continue c ≡ true → is_continue c ≡ true
continue_ascii c e = or_left (is_ascii_continue c) (nat_le 128 c && is_xid_continue c) e

pub start_continue : (c : ℕ) → is_start c ≡ true → is_continue c ≡ true
start_continue c e =
    elim (or_cases (is_ascii_start c) (nat_le 128 c && is_xid_start c) e) [
      | inl h ↦ continue_ascii c (or_left (is_ascii_start c) (is_digit c) h)
      | inr h ↦
          let p = and_parts (nat_le 128 c) (is_xid_start c) h in
          or_right (is_ascii_continue c) (nat_le 128 c && is_xid_continue c) (and_from (nat_le 128 c) (is_xid_continue c) p.0 (is_xid_start-is_xid_continue c p.1))
    ]

pub start_no_digit : (c : ℕ) → is_start c ≡ true → is_digit c ≡ false
start_no_digit c e = false_from_ne_true (is_digit c) (λ d.
    let p = and_parts (nat_le 48 c) (nat_le c 57) d in
    let h : c ≤ 57 = leb-true c 57 p.1 in
    elim (or_cases (is_ascii_start c) (nat_le 128 c && is_xid_start c) e) [
      | inl s ↦ elim (or_cases (is_letter c) (c == 95) s) [
        | inl l ↦ elim (or_cases (nat_le 97 c && nat_le c 122) (nat_le 65 c && nat_le c 90) l) [
          | inl k ↦ let m : 97 ≤ c = leb-true 97 c (and_parts (nat_le 97 c) (nat_le c 122) k).0 in absurd (omega arith)
          | inr k ↦ let m : 65 ≤ c = leb-true 65 c (and_parts (nat_le 65 c) (nat_le c 90) k).0 in absurd (omega arith)
        ]
        | inr l ↦ let m : c ≡ 95 = eqb-true c 95 l in absurd (omega arith)
      ]
      | inr s ↦ let m : 128 ≤ c = leb-true 128 c (and_parts (nat_le 128 c) (is_xid_start c) s).0 in absurd (omega arith)
    ])

-- ---- texts of ASCII

pub ascii_text : (w : List ℕ) → list_all is_ascii w ≡ true → IsAscii w
ascii_text w e = IsAscii-from_all w (λ k d i. ltb-true (slice_index_or w k d) 128 (AllPass-from_list_all is_ascii w e k d i))

pub ascii_test : (w : List ℕ) → IsAscii w → list_all is_ascii w ≡ true
ascii_test [] h = refl
ascii_test (b ∷ bs) h = and_from (is_ascii b) (list_all is_ascii bs) (lt-ltb b 128 (h 0)) (ascii_test bs (λ i. h (suc i)))

pub ascii_utf8 : (w : List ℕ) → list_all is_ascii w ≡ true → IsUtf8 w
ascii_utf8 w e = IsUtf8-from_ascii w (ascii_text w e)

-- a first byte below 128 is the first character
pub chars_low : (b : ℕ) (bs : List ℕ) → b < 128 → chars (b ∷ bs) ≡ b ∷ chars bs
chars_low b bs h =
    let a = IsAscii-cons b [] h IsAscii-nil in
    chars-append (b ∷ []) bs (IsUtf8-from_ascii (b ∷ []) a) ∙ ap (λ l. l ++ chars bs) (chars-IsAscii (b ∷ []) a)

pub high_no_ascii : (b : ℕ) → nat_le 128 b ≡ true → is_ascii_continue b ≡ false
high_no_ascii b h = false_from_ne_true (is_ascii_continue b) (λ e. let m : 128 ≤ b = leb-true 128 b h in let k : b < 128 = ltb-true b 128 (low_continue b e) in absurd (omega arith))

pub high_low : (b : ℕ) → (nat_le 128 b ≡ true) ⊎ (b < 128)
high_low b = by_test (nat_le 128 b) refl
  where
    by_test : (x : Bool) → nat_le 128 b ≡ x → (nat_le 128 b ≡ true) ⊎ (b < 128)
    by_test true e = inl e
    by_test false e = inr (leb-false 128 b e)

-- ---- whether a text goes on an identifier, by its first character

pub goes_on_is : (t : List ℕ) → goes_on t ≡ begins_continue (chars t)
goes_on_is [] = ap begins_continue (sym chars-nil)
goes_on_is (b ∷ bs) =
    elim (high_low b) [
      | inl h ↦ high (is_ascii_continue b) (nat_le 128 b) (begins_continue (chars (b ∷ bs))) (high_no_ascii b h) h
      | inr h ↦ low (is_ascii_continue b) (nat_le 128 b) (begins_continue (chars (b ∷ bs))) (is_xid_continue b) (no_high b h) ∙ ap begins_continue (sym (chars_low b bs h))
    ]
  where
    no_high : (b : ℕ) → b < 128 → nat_le 128 b ≡ false
    no_high b h = false_from_ne_true (nat_le 128 b) (λ e. let m : 128 ≤ b = leb-true 128 b e in absurd (omega arith))

    high : (a x y : Bool) → a ≡ false → x ≡ true → (a || (x && y)) ≡ y
    high a x y p q = rw (p, q)

    low : (a x y z : Bool) → x ≡ false → (a || (x && y)) ≡ (a || (x && z))
    low a x y z p = rw p

-- ---- runs

-- whether an identifier's first byte, or that of a number or a keyword, may be this
abbrev pub opens : ℕ → Bool
opens b = is_ascii_continue b || nat_le 128 b

-- a text of characters that may stand in an identifier
pub record IsRun (w : List ℕ) : Type 0 where
  pub text : IsUtf8 w
  pub continues : list_all is_continue (chars w) ≡ true
  pub opened : opens (first w) ≡ true
  pub not_empty : w ≢ []

pub run_from : (w : List ℕ) → IsUtf8 w → list_all is_continue (chars w) ≡ true → w ≢ [] → IsRun w
run_from [] u a n = absurd (n refl)
run_from (b ∷ bs) u a n = record { text = u; continues = a; opened = elim (high_low b) [ inl h ↦ or_right (is_ascii_continue b) (nat_le 128 b) h | inr h ↦ low b bs h a ]; not_empty = n }
  where
    low : (b : ℕ) (bs : List ℕ) → b < 128 → list_all is_continue (chars (b ∷ bs)) ≡ true → opens b ≡ true
    low b bs h a =
        let p = and_parts (is_continue b) (list_all is_continue (chars bs)) (ap (list_all is_continue) (sym (chars_low b bs h)) ∙ a) in
        elim (or_cases (is_ascii_continue b) (nat_le 128 b && is_xid_continue b) p.0) [
          | inl k ↦ or_left (is_ascii_continue b) (nat_le 128 b) k
          | inr k ↦ or_right (is_ascii_continue b) (nat_le 128 b) (and_parts (nat_le 128 b) (is_xid_continue b) k).0
        ]

pub ascii_run : (w : List ℕ) → list_all is_ascii_continue w ≡ true → w ≢ [] → IsRun w
ascii_run w e n =
    let a = ascii_text w (all_more is_ascii_continue is_ascii low_continue w e) in
    run_from w (IsUtf8-from_ascii w a) (ap (list_all is_continue) (chars-IsAscii w a) ∙ all_more is_ascii_continue is_continue continue_ascii w e) n

-- texts of the same characters are one
pub texts_alike : (w v : List ℕ) → IsUtf8 w → IsUtf8 v → chars w ≡ chars v → w ≡ v
texts_alike w v a b e = sym (encodes-chars w a) ∙ (ap encode_utf8_all e ∙ encodes-chars v b)

pub chars_not_empty : (w : List ℕ) → IsUtf8 w → w ≢ [] → chars w ≢ []
chars_not_empty w u n e = n (sym (encodes-chars w u) ∙ ap encode_utf8_all e)

-- a text that begins with a run goes on an identifier
pub run_goes_on : (w r : List ℕ) → IsRun w → goes_on (w ++ r) ≡ true
run_goes_on w r a =
    goes_on_is (w ++ r) ∙ (ap begins_continue (chars-append w r a.text) ∙ by_first (chars w) (chars r) (chars_not_empty w a.text a.not_empty) a.continues)
  where
    by_first : (cs ds : List ℕ) → cs ≢ [] → list_all is_continue cs ≡ true → begins_continue (cs ++ ds) ≡ true
    by_first [] ds n e = absurd (n refl)
    by_first (c ∷ cs) ds n e = (and_parts (is_continue c) (list_all is_continue cs) e).0

-- ---- names

if_true : (x y z : Bool) → x ≡ true → (if x then y else z) ≡ y
if_true x y z p = rw p

if_false : (x y z : Bool) → x ≡ false → (if x then y else z) ≡ z
if_false x y z p = rw p

-- a name is a text that spells a name in the normalization form C
pub record NameOf (w : List ℕ) : Type 0 where
  pub text : IsUtf8 w
  pub spells : spells_name (chars w) ≡ true
  pub form : IsInForm Nfc (chars w)

true_or_false : (x : Bool) → (x ≡ true) ⊎ (x ≡ false)
true_or_false true = inl refl
true_or_false false = inr refl

pub ascii_name : (w : List ℕ) → IsAscii w → spells_name (chars w) ≡ true → NameOf w
ascii_name w a e = record { text = IsUtf8-from_ascii w a; spells = e; form = subst (λ l. IsInForm Nfc l) (sym (chars-IsAscii w a)) (normalize-ascii Nfc w (All-from_ascii w a)) }

pub name_parts : (w : List ℕ) → is_name w ≡ true → NameOf w
name_parts w e =
    elim (true_or_false (list_all is_ascii w)) [
      | inl h ↦ ascii_name w (ascii_text w h) (ap spells_name (chars-IsAscii w (ascii_text w h)) ∙ (sym (if_true (list_all is_ascii w) (spells_name w) (is_utf8 w && (spells_name (chars w) && is_nfc (chars w))) h) ∙ e))
      | inr h ↦ other_name w (sym (if_false (list_all is_ascii w) (spells_name w) (is_utf8 w && (spells_name (chars w) && is_nfc (chars w))) h) ∙ e)
    ]
  where
    other_name : (w : List ℕ) → (is_utf8 w && (spells_name (chars w) && is_nfc (chars w))) ≡ true → NameOf w
    other_name w e =
        let p = and_parts (is_utf8 w) (spells_name (chars w) && is_nfc (chars w)) e in
        let q = and_parts (spells_name (chars w)) (is_nfc (chars w)) p.1 in
        record { text = IsUtf8-from_is_utf8 w p.0; spells = q.0; form = is_in_form-true Nfc (chars w) q.1 }

pub name_from : (w : List ℕ) → NameOf w → is_name w ≡ true
name_from w n =
    elim (true_or_false (list_all is_ascii w)) [
      | inl h ↦ if_true (list_all is_ascii w) (spells_name w) (is_utf8 w && (spells_name (chars w) && is_nfc (chars w))) h ∙ (ap spells_name (sym (chars-IsAscii w (ascii_text w h))) ∙ n.spells)
      | inr h ↦
          if_false (list_all is_ascii w) (spells_name w) (is_utf8 w && (spells_name (chars w) && is_nfc (chars w))) h
          ∙ and_from (is_utf8 w) (spells_name (chars w) && is_nfc (chars w)) (is_utf8-from_IsUtf8 w n.text)
          (and_from (spells_name (chars w)) (is_nfc (chars w)) n.spells (is_in_form_from Nfc (chars w) n.form))
    ]

pub spelled_all : (cs : List ℕ) → spells_name cs ≡ true → list_all is_continue cs ≡ true
spelled_all [] e = absurd (false≢true e)
spelled_all (c ∷ cs) e =
    let p = and_parts (is_start c) (list_all is_continue cs) e in
    and_from (is_continue c) (list_all is_continue cs) (start_continue c p.0) p.1

pub name_run : (w : List ℕ) → is_name w ≡ true → IsRun w
name_run w e =
    let n = name_parts w e in
    run_from w n.text (spelled_all (chars w) n.spells) (λ h. false≢true (sym (ap (λ l. spells_name (chars l)) h ∙ ap spells_name chars-nil) ∙ n.spells))

-- a name begins with no digit
pub name_no_digit : (w : List ℕ) → is_name w ≡ true → is_digit (first w) ≡ false
name_no_digit [] e = refl
name_no_digit (b ∷ bs) e = false_from_ne_true (is_digit b) (λ d.
    let n = name_parts (b ∷ bs) e in
    let h : b ≤ 57 = leb-true b 57 (and_parts (nat_le 48 b) (nat_le b 57) d).1 in
    let k = and_parts (is_start b) (list_all is_continue (chars bs)) (ap spells_name (sym (chars_low b bs (omega arith))) ∙ n.spells) in
    both_ways (is_digit b) (start_no_digit b k.0) d)

-- what comes behind the first characters of a text is a text
pub rest_text : (n : ℕ) (t : List ℕ) → n ≤ length t → IsUtf8 t → IsUtf8 (take n t) → IsUtf8 (drop n t)
rest_text n t h u v = IsUtf8-drop t n u (IsCharBoundary-from_take t n u h v)

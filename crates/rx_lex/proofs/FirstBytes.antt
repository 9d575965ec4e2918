-- Each word is a run of identifier bytes, a format or a mark, as its first byte says: by cases on how it is a word.
use Rattle.std.proofs.Common.{◌≡◌, ℕ, ◌≤◌, Bool, true, List, [], ◌∷◌, ◌++◌, Option, Some, None, refl, ap, ◌∙◌, arith, inl, inr}
use Rattle.std.specs.Prelude.{◌≢◌, ◌==◌, ◌&&◌, ◌||◌, nat_le}
use Rattle.std.specs.List.{list_all}
use Rattle.std.proofs.lemmas.Bool.{and_parts, and_from, or_cases, or_left, or_right, leb-true, le-leb}
use Rattle.std.proofs.lemmas.List.Folds.{list_all-append}
use Rattle.rx_core.specs.declared.types.Kind.{Kind}
use Rattle.rx_core.specs.declared.types.Kind.TheVariants.{U8, U32, U64, I32, I64}
use Rattle.rx_core.specs.Bytes.{same_bytes, is_one_of}
use Rattle.rx_core.proofs.BytesLemmas.{same_bytes-true}
use Rattle.rx_lex.specs.declared.numeral.Base.{Base}
use Rattle.rx_lex.specs.declared.numeral.Base.TheVariants.{Hexadecimal, Octal, Binary}
use Rattle.rx_lex.specs.Numerals.{IsNumeral, decimal, based, is_digit, is_digit_of, is_among, is_among_decimal, prefix, suffix_text}
use Rattle.rx_lex.specs.Words.{is_ascii_start, is_ascii_continue, is_letter}

abbrev pub first : List ℕ → ℕ
first [] = 0
first (c ∷ cs) = c

pub first-append : (w r : List ℕ) → w ≢ [] → first (w ++ r) ≡ first w
first-append [] r n = absurd (n refl)
first-append (c ∷ cs) r n = refl

-- what each of the words has, one of them has
pub one_of_all : (P : List ℕ → Bool) (w : List ℕ) (ms : List (List ℕ)) → list_all P ms ≡ true → is_one_of w ms ≡ true → P w ≡ true
one_of_all P w [] a e = absurd (cc)
one_of_all P w (m ∷ ms) a e =
    let p = and_parts (P m) (list_all P ms) a in
    elim (or_cases (same_bytes w m) (is_one_of w ms) e) [
      | inl h ↦ ap P (same_bytes-true w m h) ∙ p.0
      | inr h ↦ one_of_all P w ms p.1 h
    ]

pub all_more : (P Q : ℕ → Bool) → ((c : ℕ) → P c ≡ true → Q c ≡ true) → (cs : List ℕ) → list_all P cs ≡ true → list_all Q cs ≡ true
all_more P Q h [] e = refl
all_more P Q h (c ∷ cs) e = let p = and_parts (P c) (list_all P cs) e in and_from (Q c) (list_all Q cs) (h c p.0) (all_more P Q h cs p.1)

-- ---- numbers are made of identifier bytes of ASCII

pub continue_digit : (c : ℕ) → is_digit c ≡ true → is_ascii_continue c ≡ true
continue_digit c e = or_right (is_ascii_start c) (is_digit c) e

pub continue_letter : (c : ℕ) → is_letter c ≡ true → is_ascii_continue c ≡ true
continue_letter c e = or_left (is_ascii_start c) (is_digit c) (or_left (is_letter c) (c == 95) e)

pub continue_line : (c : ℕ) → (c == 95) ≡ true → is_ascii_continue c ≡ true
continue_line c e = or_left (is_ascii_start c) (is_digit c) (or_right (is_letter c) (c == 95) e)

between : (a b x y c : ℕ) → x ≤ a → b ≤ y → (nat_le a c && nat_le c b) ≡ true → (nat_le x c && nat_le c y) ≡ true
between a b x y c p q e =
    let h = and_parts (nat_le a c) (nat_le c b) e in
    let l : a ≤ c = leb-true a c h.0 in
    let m : c ≤ b = leb-true c b h.1 in
    and_from (nat_le x c) (nat_le c y) (le-leb x c (omega arith)) (le-leb c y (omega arith))

continue_of : (b : Base) (c : ℕ) → is_digit_of b c ≡ true → is_ascii_continue c ≡ true
continue_of Hexadecimal c e =
    elim (or_cases (is_digit c || (nat_le 97 c && nat_le c 102)) (nat_le 65 c && nat_le c 70) e) [
      | inl h ↦ elim (or_cases (is_digit c) (nat_le 97 c && nat_le c 102) h) [
        | inl d ↦ continue_digit c d
        | inr l ↦ continue_letter c (or_left (nat_le 97 c && nat_le c 122) (nat_le 65 c && nat_le c 90) (between 97 102 97 122 c (omega arith) (omega arith) l))
      ]
      | inr l ↦ continue_letter c (or_right (nat_le 97 c && nat_le c 122) (nat_le 65 c && nat_le c 90) (between 65 70 65 90 c (omega arith) (omega arith) l))
    ]
continue_of Octal c e = continue_digit c (between 48 55 48 57 c (omega arith) (omega arith) e)
continue_of Binary c e = continue_digit c (between 48 49 48 57 c (omega arith) (omega arith) e)

pub continue_among : (b : Base) (c : ℕ) → is_among b c ≡ true → is_ascii_continue c ≡ true
continue_among b c e = elim (or_cases (is_digit_of b c) (c == 95) e) [ inl h ↦ continue_of b c h | inr h ↦ continue_line c h ]

pub continue_decimal : (c : ℕ) → is_among_decimal c ≡ true → is_ascii_continue c ≡ true
continue_decimal c e = elim (or_cases (is_digit c) (c == 95) e) [ inl h ↦ continue_digit c h | inr h ↦ continue_line c h ]

pub suffix_continues : (k : Option Kind) → list_all is_ascii_continue (suffix_text k) ≡ true
suffix_continues None = refl
suffix_continues (Some U8) = refl
suffix_continues (Some U32) = refl
suffix_continues (Some U64) = refl
suffix_continues (Some I32) = refl
suffix_continues (Some I64) = refl

prefix_continues : (b : Base) → list_all is_ascii_continue (prefix b) ≡ true
prefix_continues Hexadecimal = refl
prefix_continues Octal = refl
prefix_continues Binary = refl

all_joined : (a b : List ℕ) → list_all is_ascii_continue a ≡ true → list_all is_ascii_continue b ≡ true → list_all is_ascii_continue (a ++ b) ≡ true
all_joined a b p q = list_all-append is_ascii_continue a b ∙ and_from (list_all is_ascii_continue a) (list_all is_ascii_continue b) p q

pub numeral_continues : {w : List ℕ} {v : ℕ} {k : Option Kind} → IsNumeral w v k → list_all is_ascii_continue w ≡ true
numeral_continues (decimal c cs k d a e) =
    ap (list_all is_ascii_continue) e ∙ and_from (is_ascii_continue c) (list_all is_ascii_continue (cs ++ suffix_text k)) (continue_digit c d)
    (all_joined cs (suffix_text k) (all_more is_among_decimal is_ascii_continue continue_decimal cs a) (suffix_continues k))
numeral_continues (based b cs k a n e) =
    ap (list_all is_ascii_continue) e ∙ all_joined (prefix b) (cs ++ suffix_text k) (prefix_continues b)
    (all_joined cs (suffix_text k) (all_more (is_among b) is_ascii_continue (continue_among b) cs a) (suffix_continues k))

-- a number begins with a digit
pub numeral_digit : {w : List ℕ} {v : ℕ} {k : Option Kind} → IsNumeral w v k → is_digit (first w) ≡ true
numeral_digit (decimal c cs k d a e) = ap (λ l. is_digit (first l)) e ∙ d
numeral_digit (based Hexadecimal cs k a n e) = ap (λ l. is_digit (first l)) e
numeral_digit (based Octal cs k a n e) = ap (λ l. is_digit (first l)) e
numeral_digit (based Binary cs k a n e) = ap (λ l. is_digit (first l)) e

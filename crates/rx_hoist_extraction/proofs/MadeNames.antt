-- The names that an extraction makes are words of the language. In front of a name in the normalization form C, `Exit_` changes
-- nothing of the form: ASCII in front of an ASCII character keeps to itself, and nothing composes onto `_`. The others are ASCII.
use Rattle.std.proofs.Common.{◌≡◌, ◌≢◌, ℕ, zero, suc, ◌/◌, get_or, false, lt-ltb, Bool, ◌+◌, ◌%◌, ◌≤◌, ◌<◌, ◌^◌, true, List, [], ◌∷◌, ◌++◌, length, None, codes, refl, sym, ap, ◌∙◌, arith, inl, inr}
use Rattle.std.specs.Prelude.{not, ◌&&◌, ◌==◌}
use Rattle.std.specs.List.{list_all}
use Rattle.std.specs.Char.{is_ascii}
use Rattle.std.specs.Str.{chars}
use Rattle.std.specs.Fmt.{decimal, digits}
use Rattle.std.specs.Fmt.{digits_onto, digit_glyph}
use Rattle.std.proofs.lemmas.Bool.{and_parts, and_from, or_left, or_right}
use Rattle.std.proofs.lemmas.Bool.Decides.{nat_tests}
use Rattle.std.proofs.lemmas.Str.{IsUtf8-append}
use Rattle.std.proofs.lemmas.Str.Ascii.{All-from_ascii}
use Rattle.ucd_normal.proofs.Computing.{ucd_normal}
use Rattle.ucd_normal.proofs.CompositionLemmas.{composite-paired_with}
use Rattle.ucd_normal.specs.Composition.{paired_with}
use Rattle.ucd_normal.specs.Compositions.{compositions}
use Rattle.ucd_normal.specs.declared.forms.Form.TheVariants.{Nfd, Nfc}
use Rattle.unicode_normalization.specs.Compose.{primary_composite}
use Rattle.unicode_normalization.specs.Forms.{nfc}
use Rattle.unicode_normalization.specs.Hangul.{compose_hangul}
use Rattle.unicode_normalization.proofs.ComposeLemmas.{cases_Option}
use Rattle.unicode_normalization.proofs.DecomposeLemmas.{primary_composite-table}
use Rattle.unicode_normalization.proofs.FormsLemmas.{class-latin, is_final-Nfd, quick_check-ascii, normalize-ascii, normalize-ascii_boundary}
use Rattle.unicode_normalization.proofs.HangulLemmas.{compose_hangul-some}
use Rattle.unicode_normalization.proofs.KeptLemmas.{nfc-alone}
use Rattle.rx_core.specs.Bytes.{same_bytes, is_one_of}
use Rattle.rx_lex.specs.declared.token.Class.TheVariants.{Lifetime}
use Rattle.rx_lex.specs.Numerals.{is_digit}
use Rattle.rx_lex.specs.Words.{is_ascii_start, is_continue, spells_name, is_name, is_identifier, keywords, IsWord, lifetime}
use Rattle.rx_lex.proofs.Names.{NameOf, name_parts, name_from, ascii_text, ascii_utf8, chars_low, continue_ascii, low_continue, spelled_all}
use Rattle.rx_lex.proofs.FirstBytes.{all_more}
use Rattle.rx_hoist_extraction.specs.Names.{Names}
use Rattle.rx_hoist_extraction.specs.Plan.{Exit, to_next, to_break, to_continue, to_return, Plan, enum_name, exit_name}
use Rattle.rx_hoist_extraction.specs.Fresh.{fresh_variable, fresh_lifetime}
use Rattle.rx_hoist_extraction.proofs.FreshNames.{fresh_has}

-- ---- `Exit_` in front

pairs_of_line : compositions 0x5F ≡ []
unfolding ucd_normal
pairs_of_line = refl

never_after_line : (b : ℕ) → primary_composite 0x5F b ≡ None
unfolding paired_with
never_after_line b =
    elim (cases_Option (compose_hangul 0x5F b)) [
      | inl none ↦ primary_composite-table 0x5F b none ∙ composite-paired_with 0x5F b ∙ ap (paired_with b) pairs_of_line
      | inr some ↦ elim (compose_hangul-some 0x5F b some.0 some.1) [ inl lv ↦ absurd (omega arith) | inr lvt ↦ absurd (omega arith) ]
    ]

line_in_front : (cs : List ℕ) → nfc (0x5F ∷ cs) ≡ 0x5F ∷ nfc cs
line_in_front cs = nfc-alone 0x5F cs (omega (arith, class-latin 0x5F (omega arith))) (is_final-Nfd 0x5F (quick_check-ascii Nfd 0x5F (omega arith))) never_after_line

exit_in_front : (cs : List ℕ) → nfc (codes "Exit_" ++ cs) ≡ codes "Exit_" ++ nfc cs
exit_in_front cs = normalize-ascii_boundary Nfc (codes "Exit") 0x5F cs (omega arith)
    ∙ ap (λ l. l ++ nfc (0x5F ∷ cs)) (normalize-ascii Nfc (codes "Exit") (All-from_ascii (codes "Exit") (ascii_text (codes "Exit") refl)))
    ∙ ap (λ l. codes "Exit" ++ l) (line_in_front cs)

exit_chars : (w : List ℕ) → chars (codes "Exit_" ++ w) ≡ codes "Exit_" ++ chars w
exit_chars w = chars_low 69 (120 ∷ 105 ∷ 116 ∷ 95 ∷ w) (omega arith)
    ∙ ap (λ l. 69 ∷ l) (chars_low 120 (105 ∷ 116 ∷ 95 ∷ w) (omega arith)
    ∙ ap (λ l. 120 ∷ l) (chars_low 105 (116 ∷ 95 ∷ w) (omega arith)
    ∙ ap (λ l. 105 ∷ l) (chars_low 116 (95 ∷ w) (omega arith)
    ∙ ap (λ l. 116 ∷ l) (chars_low 95 w (omega arith)))))

exit_name_of : (w : List ℕ) → NameOf w → NameOf (codes "Exit_" ++ w)
exit_name_of w n = record {
  text = IsUtf8-append (codes "Exit_") w (ascii_utf8 (codes "Exit_") refl) n.text;
  spells = ap spells_name (exit_chars w) ∙ spelled_all (chars w) n.spells;
  form = ap nfc (exit_chars w) ∙ exit_in_front (chars w) ∙ ap (λ l. codes "Exit_" ++ l) n.form ∙ sym (exit_chars w);
}

pub exit_is_identifier : (pl : Plan) → is_identifier pl.name ≡ true → is_identifier (enum_name pl) ≡ true
exit_is_identifier pl e = let p = and_parts (is_name pl.name && not (same_bytes pl.name (codes "_"))) (not (is_one_of pl.name keywords)) e in
    let q = and_parts (is_name pl.name) (not (same_bytes pl.name (codes "_"))) p.0 in
    rw (name_from (enum_name pl) (exit_name_of pl.name (name_parts pl.name q.0))) refl

-- ---- numbers behind a word

is_digit_at : (d : ℕ) → d < 10 → is_digit (48 + d) ≡ true
is_digit_at d b = grind (arith, nat_tests)

glyph_at : (n : ℕ) → is_digit (digit_glyph false (n % 10)) ≡ true
glyph_at n = let small : n % 10 < 10 = omega arith in rw (lt-ltb (n % 10) 10 small) (is_digit_at (n % 10) small)

one_digit_more : (k n : ℕ) (ds : List ℕ) (b : Bool) → (n / 10 == 0) ≡ b → list_all is_digit (digit_glyph false (n % 10) ∷ ds) ≡ true
    → list_all is_digit (digits_onto k 10 false (n / 10) (digit_glyph false (n % 10) ∷ ds)) ≡ true → list_all is_digit (digits_onto (suc k) 10 false n ds) ≡ true
one_digit_more k n ds true q e h = rw q e
one_digit_more k n ds false q e h = rw q h

digits_more : (k n : ℕ) (ds : List ℕ) → list_all is_digit ds ≡ true → list_all is_digit (digits_onto k 10 false n ds) ≡ true
digits_more zero n ds e = e
digits_more (suc k) n ds e = let longer = and_from (is_digit (digit_glyph false (n % 10))) (list_all is_digit ds) (glyph_at n) e in
    one_digit_more k n ds (n / 10 == 0) refl longer (digits_more k (n / 10) (digit_glyph false (n % 10) ∷ ds) longer)

all_digits : (n : ℕ) → list_all is_digit (decimal n) ≡ true
unfolding digits
all_digits n = digits_more 64 n [] refl

low : (ds : List ℕ) → list_all is_digit ds ≡ true → list_all is_ascii ds ≡ true
low ds e = all_more is_digit is_ascii (λ c d. low_continue c (or_right (is_ascii_start c) (is_digit c) d)) ds e

goes_on : (ds : List ℕ) → list_all is_digit ds ≡ true → list_all is_continue ds ≡ true
goes_on ds e = all_more is_digit is_continue (λ c d. continue_ascii c (or_right (is_ascii_start c) (is_digit c) d)) ds e

out_named : (ds : List ℕ) → list_all is_digit ds ≡ true → is_identifier (codes "out_" ++ ds) ≡ true
out_named ds e = rw (low ds e, goes_on ds e) refl

break_named : (ds : List ℕ) → list_all is_digit ds ≡ true → is_identifier (codes "Break_" ++ ds) ≡ true
break_named ds e = rw (low ds e, goes_on ds e) refl

continue_named : (ds : List ℕ) → list_all is_digit ds ≡ true → is_identifier (codes "Continue_" ++ ds) ≡ true
continue_named ds e = rw (low ds e, goes_on ds e) refl

-- `r` and digits are no keyword
no_letter : (d : ℕ) → is_digit d ≡ true → (d == 101) ≡ false
no_letter d e = grind (arith, nat_tests)

r_named : (ds : List ℕ) → list_all is_digit ds ≡ true → is_identifier (codes "r" ++ ds) ≡ true
r_named [] e = refl
r_named (d ∷ ds) e = let p = and_parts (is_digit d) (list_all is_digit ds) e in
    rw (low (d ∷ ds) e, goes_on (d ∷ ds) e, no_letter d p.0) refl

-- ---- exits, fresh variables, fresh lifetimes

pub exit_name_spells : (x : Exit) → is_identifier (exit_name x) ≡ true
exit_name_spells to_next = refl
exit_name_spells (to_break k) = break_named (decimal k) (all_digits k)
exit_name_spells (to_continue k) = continue_named (decimal k) (all_digits k)
exit_name_spells to_return = refl

pub variable_is_identifier : (taken : Names) (i : ℕ) → length taken + suc i ≤ 2 ^ 64 → is_identifier (fresh_variable taken i) ≡ true
variable_is_identifier taken i b = fresh_has (λ x. is_identifier x ≡ true) (codes "out_") (λ n l. out_named (decimal n) (all_digits n)) taken i b

-- a lifetime, and not `'_`
lifetime_word : (ds : List ℕ) → list_all is_digit ds ≡ true → IsWord Lifetime (codes "'r" ++ ds) × (codes "'r" ++ ds ≢ codes "'_")
lifetime_word ds e = (
  lifetime {name = codes "r" ++ ds} (or_left (is_identifier (codes "r" ++ ds)) (same_bytes (codes "r" ++ ds) (codes "_")) (r_named ds e)) refl,
  λ same. let first : 114 ≡ 95 = ap (λ w. get_or w 1 0) same in omega (arith, first),
)

pub lifetime_is_word : (taken : Names) (i : ℕ) → length taken + suc i ≤ 2 ^ 64 → IsWord Lifetime (fresh_lifetime taken i) × (fresh_lifetime taken i ≢ codes "'_")
lifetime_is_word taken i b = fresh_has (λ w. IsWord Lifetime w × (w ≢ codes "'_")) (codes "'r") (λ n l. lifetime_word (decimal n) (all_digits n)) taken i b

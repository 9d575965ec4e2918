-- The decimal digits of a number with a suffix behind are a number with this value: by steps of one digit.
use Rattle.std.proofs.Common.{◌≡◌, ℕ, ◌+◌, ◌*◌, ◌/◌, ◌%◌, ◌^◌, ◌<◌, ◌≤◌, true, false, List, [], ◌∷◌, ◌++◌, Option, None, refl, sym, subst, ◌∙◌, arith, append-nil}
use Rattle.std.specs.Prelude.{◌≢◌, ◌==◌, ◌&&◌, not, if◌then◌else◌}
use Rattle.std.specs.List.{list_all}
use Rattle.std.specs.Fmt as format
use Rattle.std.proofs.lemmas.Fmt.{decimal_by_steps}
use Rattle.std.proofs.lemmas.Bool.{and_parts, and_from, or_left, not_from_false}
use Rattle.std.proofs.lemmas.Bool.Decides.{nat_tests}
use Rattle.std.proofs.lemmas.List.Folds.{list_all-append}
use Rattle.rx_core.specs.declared.types.Kind.{Kind}
use Rattle.rx_lex.specs.Numerals.{IsNumeral, decimal, is_digit, is_among_decimal, digit_value, value_from, suffix_text, greatest}
use Rattle.rx_lex.proofs.FirstBytes.{all_more, first}
use Rattle.rx_parse_grammar.specs.grammar.Words.{is_index}

record Digits (n : ℕ) (ds : List ℕ) : Type 0 where
  digits : list_all is_digit ds ≡ true
  value : value_from 10 0 ds ≡ n
  some : ds ≢ []
  leading : 1 ≤ n → (first ds == 48) ≡ false
  index : is_index ds ≡ true

is_digit_at : (d : ℕ) → d < 10 → is_digit (48 + d) ≡ true
is_digit_at d b = grind (arith, nat_tests)

value_at : (d : ℕ) → d < 10 → digit_value (48 + d) ≡ d
value_at d b = grind (arith, nat_tests)

no_line : (d : ℕ) → d < 10 → ((48 + d) == 95) ≡ false
no_line d b = grind (arith, nat_tests)

value-push : (s : ℕ) (ds : List ℕ) (d : ℕ) → d < 10 → value_from 10 s (ds ++ ((48 + d) ∷ [])) ≡ value_from 10 s ds * 10 + d
value-push s [] d b = rw (no_line d b, value_at d b) refl
value-push s (c ∷ ds) d b = value-push (if c == 95 then s else s * 10 + digit_value c) ds d b

not_zero : (d : ℕ) → d < 10 → 1 ≤ d → ((48 + d) == 48) ≡ false
not_zero d b l = grind (arith, nat_tests)

-- a digit behind digits
longer_leading : (ds : List ℕ) (c : ℕ) → ds ≢ [] → (first ds == 48) ≡ false → (first (ds ++ (c ∷ [])) == 48) ≡ false
longer_leading [] c n e = absurd (n refl)
longer_leading (d ∷ ds) c n e = e

longer_index : (ds : List ℕ) (c : ℕ) → ds ≢ [] → list_all is_digit ds ≡ true → is_digit c ≡ true → (first ds == 48) ≡ false → is_index (ds ++ (c ∷ [])) ≡ true
longer_index [] c n a i e = absurd (n refl)
longer_index (d ∷ []) c n a i e =
    let p = and_parts (is_digit d) true a in
    and_from (is_digit d) (not (d == 48) && (is_digit c && true)) p.0
    (and_from (not (d == 48)) (is_digit c && true) (not_from_false (d == 48) e) (and_from (is_digit c) true i refl))
longer_index (d ∷ f ∷ ds) c n a i e =
    let p = and_parts (is_digit d) (list_all is_digit (f ∷ ds)) a in
    and_from (is_digit d) (not (d == 48) && list_all is_digit ((f ∷ ds) ++ (c ∷ []))) p.0
    (and_from (not (d == 48)) (list_all is_digit ((f ∷ ds) ++ (c ∷ []))) (not_from_false (d == 48) e)
    (list_all-append is_digit (f ∷ ds) (c ∷ []) ∙ and_from (list_all is_digit (f ∷ ds)) (is_digit c && true) p.1 (and_from (is_digit c) true i refl)))

one_digit : (n : ℕ) → n < 10 → Digits n ((48 + n) ∷ [])
one_digit n b = record {
  digits = and_from (is_digit (48 + n)) true (is_digit_at n b) refl;
  value = value-push 0 [] n b ∙ omega arith;
  some = λ e. cc;
  leading = λ p. not_zero n b p;
  index = is_digit_at n b;
}

not_empty : (ds : List ℕ) (c : ℕ) → ds ++ (c ∷ []) ≢ []
not_empty [] c e = cc
not_empty (d ∷ ds) c e = cc

one_more : (n : ℕ) (ds : List ℕ) → 10 ≤ n → Digits (n / 10) ds → Digits n (ds ++ ((48 + n % 10) ∷ []))
one_more n ds b r = record {
  digits = list_all-append is_digit ds ((48 + n % 10) ∷ []) ∙ and_from (list_all is_digit ds) (is_digit (48 + n % 10) && true) r.digits (and_from (is_digit (48 + n % 10)) true (is_digit_at (n % 10) (omega arith)) refl);
  value = value-push 0 ds (n % 10) (omega arith) ∙ (let e = r.value in omega arith);
  some = not_empty ds (48 + n % 10);
  leading = λ p. longer_leading ds (48 + n % 10) r.some (r.leading (omega arith));
  index = longer_index ds (48 + n % 10) r.some r.digits (is_digit_at (n % 10) (omega arith)) (r.leading (omega arith));
}

digits_of : (n : ℕ) → n < 2 ^ 64 → Digits n (format.decimal n)
digits_of = decimal_by_steps Digits one_digit one_more

among_digit : (c : ℕ) → is_digit c ≡ true → is_among_decimal c ≡ true
among_digit c e = or_left (is_digit c) (c == 95) e

numeral_by : (n : ℕ) (ds : List ℕ) (k : Option Kind) → Digits n ds → IsNumeral (ds ++ suffix_text k) n k
numeral_by n [] k r = absurd (r.some refl)
numeral_by n (c ∷ cs) k r =
    let p = and_parts (is_digit c) (list_all is_digit cs) r.digits in
    subst (λ v. IsNumeral ((c ∷ cs) ++ suffix_text k) v k) r.value (decimal c cs k p.0 (all_more is_digit is_among_decimal among_digit cs p.1) refl)

pub decimal_numeral : (n : ℕ) (k : Option Kind) → n ≤ greatest → IsNumeral (format.decimal n ++ suffix_text k) n k
decimal_numeral n k b = numeral_by n (format.decimal n) k (digits_of n (omega arith))

-- such digits are the number of a part too
pub decimal_index : (n : ℕ) → n ≤ greatest → is_index (format.decimal n) ≡ true
decimal_index n b = (digits_of n (omega arith)).index

pub decimal_value : (n : ℕ) → n ≤ greatest → n ≡ value_from 10 0 (format.decimal n)
decimal_value n b = sym (digits_of n (omega arith)).value

pub plain_numeral : (n : ℕ) → n ≤ greatest → IsNumeral (format.decimal n) n None
plain_numeral n b = subst (λ w. IsNumeral w n None) (append-nil (format.decimal n)) (decimal_numeral n None b)

-- Numbers and their digits: the digits that a number has are digits without a leading zero, and tell it.
use Rattle.std.proofs.Common.{◌≡◌, ℕ, zero, suc, ◌+◌, ◌-◌, ◌*◌, ◌^◌, ◌≤◌, ◌<◌, Bool, true, false, List, [], ◌∷◌, length, drop, get_or, Option, Some, None, MatchOption, refl, sym, ap, subst, ◌∙◌, arith}
use Rattle.std.specs.Prelude.{◌==◌, ◌&&◌, not}
use Rattle.std.specs.Fmt.{decimal}
use Rattle.std.specs.Int.{IsInRange}
use Rattle.std.specs.Str.{all_ascii_digits}
use Rattle.std.proofs.lemmas.Bool.{eqb-false, eqb-true, false≢true}
use Rattle.std.proofs.lemmas.List.{at_drop_more}
use Rattle.std.proofs.lemmas.Str.Parse.{IsNumeralModel, FoldsDigits, numerals_by_fold, tells_all_ascii_digits}
use Rattle.std.proofs.lemmas.Fmt.{digits_decimal, digits_value-decimal, decimal-digits_value, decimal_nonempty, first_decimal, decimal_injective, decimal_digit}
use Rattle.rx_cert_lines.specs.Items.{Small}
use Rattle.rx_cert_lines.specs.Certificates.{Free}
use Rattle.rx_cert_lines.specs.Reading.{value_on, is_plain, NoNumber}

folds : FoldsDigits value_on
folds = record { empty = λ n. refl; more = λ n c cs h. refl }

own : IsNumeralModel (λ ds. all_ascii_digits ds ≡ true) (value_on 0)
own = numerals_by_fold (λ ds. all_ascii_digits ds ≡ true) tells_all_ascii_digits value_on folds

wide : (n : ℕ) → Small n → n < 2 ^ 64
wide n h = omega (arith, h)

-- ---- what is so written

pub value_grows : (n : ℕ) (ds : List ℕ) → n ≤ value_on n ds
value_grows n [] = omega arith
value_grows n (c ∷ cs) = let r = value_grows (n * 10 + (c - 48)) cs in omega (arith, r)

record Plain (w : List ℕ) : Type 0 where
  digits : all_ascii_digits w ≡ true
  some : 0 < length w
  first : get_or w 0 0 ≡ 48 → length w ≡ 1

plain_parts : (w : List ℕ) → is_plain w ≡ true → Plain w
plain_parts [] e = absurd (false≢true e)
plain_parts (c ∷ []) e = record { digits = e; some = omega arith; first = λ h. refl }
plain_parts (c ∷ (d ∷ ds)) e = go (c == 48) refl e where
  go : (b : Bool) → (c == 48) ≡ b → (not b && all_ascii_digits (c ∷ (d ∷ ds))) ≡ true → Plain (c ∷ (d ∷ ds))
  go true p q = absurd (false≢true q)
  go false p q = record { digits = q; some = omega arith; first = λ h. absurd (eqb-false c 48 p h) }

plain_whole : (w : List ℕ) → Plain w → is_plain w ≡ true
plain_whole [] p = absurd (omega (arith, p.some))
plain_whole (c ∷ []) p = p.digits
plain_whole (c ∷ (d ∷ ds)) p = go (c == 48) refl where
  go : (b : Bool) → (c == 48) ≡ b → (not b && all_ascii_digits (c ∷ (d ∷ ds))) ≡ true
  go true e = let h = p.first (eqb-true c 48 e) in absurd (omega (arith, h))
  go false e = p.digits

decimal_plain : (n : ℕ) → Small n → is_plain (decimal n) ≡ true
decimal_plain n h = plain_whole (decimal n) (record { digits = digits_decimal own n (wide n h); some = decimal_nonempty n (wide n h); first = one n h }) where
  one : (n : ℕ) → Small n → get_or (decimal n) 0 0 ≡ 48 → length (decimal n) ≡ 1
  one zero h e = ap length (decimal_digit 0 (omega arith))
  one (suc n) h e = let f = first_decimal (suc n) (omega arith) (wide (suc n) h) in absurd (omega (arith, f, e))

decimal_value : (n : ℕ) → Small n → value_on 0 (decimal n) ≡ n
decimal_value n h = digits_value-decimal own n (wide n h)

-- ---- what is read

pub number_read : (w : List ℕ) (n : ℕ) → is_plain w ≡ true → n ≡ value_on 0 w → Small n → decimal n ≡ w
number_read w n p e h = let q = plain_parts w p in
    ap decimal e ∙ decimal-digits_value own w q.digits q.some q.first (subst (λ k. k < 2 ^ 64) e (wide n h))

pub not_plain : (w : List ℕ) → is_plain w ≡ false → NoNumber w
not_plain w p n h e = false≢true (sym p ∙ ap is_plain (sym e) ∙ decimal_plain n h)

pub too_large : (w : List ℕ) → 4294967296 ≤ value_on 0 w → NoNumber w
too_large w p n h e = let v = ap (value_on 0) (sym e) ∙ decimal_value n h in omega (arith, p, h, v)

pub number_same : (n m : ℕ) → Small n → Small m → decimal n ≡ decimal m → n ≡ m
number_same n m h k e = decimal_injective n m (wide n h) (wide m k) e

pub number_answer : (w : List ℕ) (r : Option ℕ) → is_plain w ≡ true → MatchOption r (4294967296 ≤ value_on 0 w) (λ n. Small n × (n ≡ value_on 0 w))
    → MatchOption r (NoNumber w) (λ n. Small n × (decimal n ≡ w))
number_answer w None p h = too_large w h
number_answer w (Some n) p h = (h.0, number_read w n p h.1 h.0)

pub too_great : (v : ℕ) (ds : List ℕ) (i : ℕ) → i < length ds → 4294967295 < v * 10 + (get_or ds i 0 - 48) → 4294967296 ≤ value_on v (drop i ds)
too_great v ds i h k =
    let e : value_on v (drop i ds) ≡ value_on (v * 10 + (get_or ds i 0 - 48)) (drop (i + 1) ds) = at_drop_more (value_on v) ds i 0 h in
    let g = value_grows (v * 10 + (get_or ds i 0 - 48)) (drop (i + 1) ds) in omega (arith, e, g, k)

-- ---- no other byte is among the digits

digits_free : (m : ℕ) → (IsInRange 48 57 m → ⊥) → (ds : List ℕ) → all_ascii_digits ds ≡ true → Free m ds
digits_free m o [] e = tt
digits_free m o (c ∷ cs) e = let p = tells_all_ascii_digits.parts c cs e in
    (λ h. o (subst (IsInRange 48 57) h p.0), digits_free m o cs p.1)

pub number_free : (m n : ℕ) → (IsInRange 48 57 m → ⊥) → Small n → Free m (decimal n)
number_free m n o h = digits_free m o (decimal n) (digits_decimal own n (wide n h))

pub not_space : IsInRange 48 57 32 → ⊥
not_space h = omega (arith, h)

pub not_feed : IsInRange 48 57 10 → ⊥
not_feed h = omega (arith, h)

pub not_dash : IsInRange 48 57 45 → ⊥
not_dash h = omega (arith, h)

pub not_e : IsInRange 48 57 101 → ⊥
not_e h = omega (arith, h)

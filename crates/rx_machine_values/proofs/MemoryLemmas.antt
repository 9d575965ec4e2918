-- Slots, and writes to them.
use Rattle.std.proofs.Common.{◌≡◌, ℕ, zero, suc, ◌<◌, ◌≤◌, Bool, true, false, List, [], ◌∷◌, ◌++◌, map, length, slice_set, Option, None, Some, refl, sym, ap, ◌∙◌, arith}
use Rattle.rx_core.specs.declared.types.Step.{Step}
use Rattle.rx_meaning.specs.Values as plain
use Rattle.rx_meaning.specs.Values.{element, with_element, and_then, put}
use Rattle.rx_machine_values.specs.declared.value.Lack.{Lack}
use Rattle.rx_machine_values.specs.declared.value.Value as code
use Rattle.rx_machine_values.specs.declared.value.Value.TheVariants as value
use Rattle.rx_machine_values.specs.PlainValues.{plain-Value, value_lacking}
use Rattle.rx_machine_values.specs.Writes.{Wrote}

pub one_more : (xs : List code.Value) → map plain-Value (xs ++ value.Lacking Lack.Unset ∷ []) ≡ map plain-Value xs ++ plain.lacking plain.unset ∷ []
one_more [] = ap (λ v. v ∷ []) (value_lacking Lack.Unset)
one_more (x ∷ xs) = ap (λ l. plain-Value x ∷ l) (one_more xs)

-- ---- a slot as a whole

set_is : (xs : List code.Value) (i : ℕ) (v : code.Value) → map plain-Value (slice_set xs i v) ≡ with_element (map plain-Value xs) i (plain-Value v)
set_is [] i v = refl
set_is (x ∷ xs) zero v = refl
set_is (x ∷ xs) (suc i) v = ap (λ l. plain-Value x ∷ l) (set_is xs i v)

pub set_at : (xs : List code.Value) (i : ℕ) (v : code.Value) → i < length xs → Wrote (map plain-Value xs) i [] (plain-Value v) (map plain-Value (slice_set xs i v)) true
set_at xs i v l = there xs i (with_element (map plain-Value xs) i (plain-Value v)) l ∙ ap Some (sym (set_is xs i v))
  where
    there : (ys : List code.Value) (j : ℕ) (N : List plain.Value) → j < length ys → and_then (element (map plain-Value ys) j) (λ u. Some N) ≡ Some N
    there [] j N l = absurd (omega (arith, l))
    there (y ∷ ys) zero N l = refl
    there (y ∷ ys) (suc j) N l = there ys j N (omega (arith, l))

pub set_past : (xs : List code.Value) (i : ℕ) (w : plain.Value) → length xs ≤ i → Wrote (map plain-Value xs) i [] w (map plain-Value xs) false
set_past xs i w l = (ap (λ o. and_then o (λ u. Some (with_element (map plain-Value xs) i w))) (past xs i l), refl)
  where
    past : (ys : List code.Value) (j : ℕ) → length ys ≤ j → element (map plain-Value ys) j ≡ None
    past [] j l = refl
    past (y ∷ ys) zero l = absurd (omega (arith, l))
    past (y ∷ ys) (suc j) l = past ys j (omega (arith, l))

-- ---- a part of one

module _ (M : List plain.Value) (i : ℕ) (p : List Step) (w : plain.Value) where
  pub set_changed : (x : plain.Value) (N : List plain.Value) (b : Bool) → Some x ≡ and_then (element M i) (λ u. put p w u) → Wrote M i [] x N b → Wrote M i p w N b
  set_changed x N b e h = by (element M i) b e h
    where
      Wrote_of : (plain.Value → Option plain.Value) → Option plain.Value → Bool → Type 0
      Wrote_of f o true = and_then o (λ u. and_then (f u) (λ y. Some (with_element M i y))) ≡ Some N
      Wrote_of f o false = (and_then o (λ u. and_then (f u) (λ y. Some (with_element M i y))) ≡ None) × (N ≡ M)

      by : (o : Option plain.Value) (b : Bool) → Some x ≡ and_then o (λ u. put p w u) → Wrote_of (λ u. Some x) o b → Wrote_of (λ u. put p w u) o b
      by None b e h = absurd (cc)
      by (Some u) true e h = sym (ap (λ o. and_then o (λ y. Some (with_element M i y))) e) ∙ h
      by (Some u) false e h = absurd (let f = h.0 in cc)

  pub none_changed : None ≡ and_then (element M i) (λ u. put p w u) → Wrote M i p w M false
  none_changed e = (by (element M i) e, refl)
    where
      by : (o : Option plain.Value) → None ≡ and_then o (λ u. put p w u) → and_then o (λ u. and_then (put p w u) (λ y. Some (with_element M i y))) ≡ None
      by None e = refl
      by (Some u) e = sym (ap (λ o. and_then o (λ y. Some (with_element M i y))) e)

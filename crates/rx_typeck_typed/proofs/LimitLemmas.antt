-- Levels and parts within their limits.
use Rattle.std.proofs.Common.{◌≡◌, ℕ, zero, suc, ◌-◌, ◌<◌, ◌≤◌, max, nat_le, Bool, true, false, ◌&&◌, List, [], ◌∷◌}
use Rattle.std.proofs.Common.{length}
use Rattle.std.proofs.Common.{slice_get, Option, Some, None, Ok, Err, refl, ap, ◌∙◌, arith}
use Rattle.std.proofs.lemmas.Option.{slice_get_within, get_or_from_slice_get}
use Rattle.std.proofs.Common.{inl, inr, ◌⊎◌, true≢false, subst, sym}
use Rattle.std.proofs.lemmas.Bool.{cases_lt}
use Rattle.rx_graph_cycles.specs.Reaches.{NoCycle, NoneBefore, FirstOnCycle, Reaches}
use Rattle.rx_typed.specs.Types.{Declared, Declarations}
use Rattle.rx_typed.specs.PlainTypes.{typ_integer, typ_boolean, typ_tuple, typ_shared, typ_mut, typ_item}
use Rattle.rx_typed_declarations.specs.Held.{held_by_each}
use Rattle.rx_typed_declarations.specs.Sizes.{Sized, IsSizes, told, capped}
use Rattle.rx_tree.specs.Plain.{ProgramTree}
use Rattle.rx_resolve_names.specs.Holding.{name_span}
use Rattle.rx_typeck_typed.specs.Steps.{Outcome, on_ok}
use Rattle.rx_typeck_typed.specs.Limits.{all_fit, item_fits, levels_fit, fits_at, Limited, Limits}

-- ---- levels

pub below_limit : (n k : ℕ) → 0 < k → nat_le (suc n) k ≡ nat_le n (k - 1)
below_limit n zero h = absurd (omega (arith, h))
below_limit n (suc k) h = grind arith

pub no_limit : (n k : ℕ) → k ≤ 0 → nat_le (suc n) k ≡ false
no_limit n zero h = grind arith
no_limit n (suc k) h = absurd (omega (arith, h))

pub most_within : (a b k : ℕ) → nat_le (max a b) k ≡ (nat_le a k && nat_le b k)
most_within a b k = grind arith

pub ruleset level_rules = (
  typ_integer,
  typ_boolean,
  typ_tuple,
  typ_shared,
  typ_mut,
  typ_item,
  below_limit,
  no_limit,
  most_within,
)

-- ---- parts

pub capped_within : (n : ℕ) → nat_le (capped n) 4096 ≡ nat_le n 4096
capped_within n = grind arith

module _ (P Q : ℕ → ℕ) (D : Declarations) (same : (i : ℕ) → i < length D → nat_le (P i) 4096 ≡ nat_le (Q i) 4096) where
  item_same : (n : ℕ) (o : Option Declared) → slice_get D n ≡ o → item_fits (P n) o ≡ item_fits (Q n) o
  item_same n None is = refl
  item_same n (Some d) is = ap (λ b. b && levels_fit d) (same n (slice_get_within D n d is))

  all_same : (n : ℕ) (p : ProgramTree) → all_fit P D n p ≡ all_fit Q D n p
  all_same n [] = refl
  all_same n (i ∷ p) = λ j. on_ok (fits_at (name_span i) (item_same n (slice_get D n) refl j))
      (λ _. all_same (suc n) p j)

sized_fit : (D : Declarations) (sizes : List ℕ) → IsSizes D sizes → (P : ℕ → ℕ) → Sized D P → (p : ProgramTree)
    → all_fit (told sizes) D 0 p ≡ all_fit P D 0 p
sized_fit D sizes s P sized p = all_same (told sizes) P D (λ i less.
    ap (λ n. nat_le n 4096) (get_or_from_slice_get sizes i (capped (P i)) 1 (s.each P sized i less))
    ∙ capped_within (P i)) 0 p

-- ---- the outcome

pub finite_limited : (p : ProgramTree) (D : Declarations) (sizes : List ℕ) (o : Outcome (Unit {0}))
    → NoCycle (held_by_each D) → IsSizes D sizes
    → o ≡ all_fit (told sizes) D 0 p → Limited p D o
finite_limited p D sizes o none s is = record {
  endless = λ n first. absurd (none n first.0);
  each = λ _ P sized. is ∙ sized_fit D sizes s P sized p;
}

pub finite_limits : (p : ProgramTree) (D : Declarations) (sizes : List ℕ) (o : Outcome (Unit {0}))
    → length D < 4294967296 → NoCycle (held_by_each D) → IsSizes D sizes → o ≡ all_fit (told sizes) D 0 p → Limits p D o
finite_limits p D sizes (Ok u) small none s is = (small, finite_limited p D sizes (Ok tt) none s is)
finite_limits p D sizes (Err e) small none s is = λ _. finite_limited p D sizes (Err e) none s is

-- ---- what keeps the limits is finite

abbrev is_ok : Outcome (Unit {0}) → Bool
is_ok (Ok u) = true
is_ok (Err e) = false

none_before : (edges : List (List ℕ)) → ((n : ℕ) → FirstOnCycle edges (Some n) → ⊥) → (n : ℕ) → NoneBefore edges n
none_before edges none zero m less = absurd (omega (arith, less))
none_before edges none (suc n) m less = by (none_before edges none n) (cases_lt m n)
  where
    by : NoneBefore edges n → (m < n) ⊎ (n ≤ m) → Reaches edges m m → ⊥
    by earlier (inl h) = earlier m h
    by earlier (inr h) = let same : n ≡ m = omega (arith, h, less) in
        λ r. none n (subst (λ k. Reaches edges k k) (sym same) r, earlier)

pub limited_finite : (p : ProgramTree) (D : Declarations) → Limited p D (Ok tt) → NoCycle (held_by_each D)
limited_finite p D l n = none_before (held_by_each D) (λ m first. true≢false (ap is_ok (l.endless m first))) (suc n) n
    (omega arith)

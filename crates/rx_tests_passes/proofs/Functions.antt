-- The first function of a program has its item.
use Rattle.std.proofs.Common.{◌≡◌, ℕ, Bool, true, ◌==◌, if◌then◌else◌, List, [], ◌∷◌, Option, Some, None, slice_get, refl, ap, sym, subst}
use Rattle.std.proofs.lemmas.Bool.{eq-eqb}
use Rattle.std.specs.Option.{IsSome}
use Rattle.rx_typeck_typed.specs.declared.typed.TypedFn.{TypedFn}
use Rattle.rx_lower.specs.Functions.{function_at}

first_is : (f : TypedFn) (fs : List TypedFn) → function_at (f ∷ fs) f.item ≡ Some f
first_is f fs = ap (λ b. if b then Some f else function_at fs f.item) (eq-eqb f.item f.item refl)

pub first_there : (fs : List TypedFn) (f : TypedFn) → Some f ≡ slice_get fs 0 → IsSome (function_at fs f.item)
first_there [] f h = elim (none h) [ ] where
  none : Some f ≡ None → ⊥
  none e = subst (λ (o : Option TypedFn). is_some o) e tt where
    is_some : Option TypedFn → Type 0
    is_some None = ⊥
    is_some (Some _) = Unit {0}
first_there (g ∷ fs) f h = subst (λ (o : Option TypedFn). IsSome (function_at (g ∷ fs) (item_of o))) (sym h) (subst IsSome (sym (first_is g fs)) refl) where
  item_of : Option TypedFn → ℕ
  item_of None = 0
  item_of (Some x) = x.item

-- Where the new items of an extraction stand: the enum of exits, where there is one, directly in front of the new function.
use Rattle.std.proofs.Common.{◌≡◌, ℕ, suc, ◌+◌, ◌-◌, Bool, true, false, Option, Some, None, slice_get, refl, sym, ap, ◌∙◌, arith}
use Rattle.std.specs.Prelude.{if◌then◌else◌}
use Rattle.rx_core.specs.declared.types.Span.{Span}
use Rattle.rx_tree.specs.Lists.{nth}
use Rattle.rx_tree.specs.Plain as plain
use Rattle.rx_tree.specs.Plain.{Function, ItemTree, ProgramTree}
use Rattle.rx_hoist_extraction.specs.Run.{Run, loops_round, run_parts}
use Rattle.rx_hoist_extraction.specs.Plan.{Bounds, Plan, has_enum}
use Rattle.rx_hoist_extraction.specs.Pinned.{pinned_function}
use Rattle.rx_hoist_extraction.specs.NewEnum.{new_enum}
use Rattle.rx_hoist_extraction.specs.NewFunction.{new_function}
use Rattle.rx_hoist_extraction.specs.Extraction.{extraction, new_number}
use Rattle.rx_hoist_extraction.proofs.NewItemsAt.{new_function_at, new_enum_at}
use Rattle.rx_splice_edits.specs.Placing.{some_if}
use Rattle.rx_engine_extraction.specs.Splicing.{enum_in, exits_in}
use Rattle.rx_engine_extraction.proofs.Forming.{got}

-- an item is one function
pub one_function : (o : Option ItemTree) (s t : Span) (f g : Function) → o ≡ Some (plain.function_item s f) → o ≡ Some (plain.function_item t g) → f ≡ g
one_function o s t f g a b = same (sym a ∙ b)
  where
    same : ◌≡◌ {A = Option ItemTree} (Some (plain.function_item s f)) (Some (plain.function_item t g)) → f ≡ g
    same e = cc

in_front : (n k : ℕ) → n ≡ k + 2 → n - 1 ≡ suc k
in_front n k e = omega (arith, e)

module _ (P : ProgramTree) (r : Run) (pl : Plan) (bs : Bounds) (s : Span) (f : Function) (there : nth P r.item ≡ Some (plain.function_item s f)) (p : ProgramTree) (n : ℕ)
    (is : p ≡ extraction P r pl bs) (number : n ≡ new_number r pl) where
  abbrev g : Function
  g = pinned_function P r.span pl.pins f

  pub function_is : slice_get p n ≡ Some (plain.function_item r.span (new_function P pl bs r.span (loops_round r g) (run_parts r g)))
  function_is = got p n ∙ ap (λ (q : ProgramTree). nth q n) is ∙ ap (λ (m : ℕ). nth (extraction P r pl bs) m) number ∙ new_function_at P r pl bs s f there

  pub exits_are : exits_in p pl n ≡ some_if (has_enum pl.exits) (new_enum P pl r.span)
  exits_are = by (has_enum pl.exits) refl
    where
      by : (b : Bool) → has_enum pl.exits ≡ b → (if b then enum_in (slice_get p (n - 1)) else None) ≡ some_if b (new_enum P pl r.span)
      by false e = refl
      by true e =
          let two : n ≡ r.item + 2 = number ∙ ap (λ (b : Bool). r.item + (if b then 2 else 1)) e in
          ap enum_in (ap (λ (m : ℕ). slice_get p m) (in_front n r.item two) ∙ got p (suc r.item) ∙ ap (λ (q : ProgramTree). nth q (suc r.item)) is ∙ new_enum_at P r pl bs s f there e)

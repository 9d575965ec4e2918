-- Marks on the lifetimes that occur: nothing public speaks of them.
use Rattle.std.specs.Prelude.{ℕ, suc, Bool, true, false, if◌then◌else◌, List, [], ◌∷◌, Ok, Err, slice_set}
use Rattle.std.specs.Prelude.{slice_index_or}
use Rattle.rx_tree.specs.declared.tree.Ident.{Ident}
use Rattle.rx_resolve_names.specs.Meant.{number}
use Rattle.rx_typeck_solver.specs.declared.facts.Rule.{Rule}
use Rattle.rx_typeck_typed.specs.declared.fault.DeclareFault.TheVariants as fault
use Rattle.rx_typeck_typed.specs.Steps.{Outcome, on_ok}

abbrev pub marked : List Bool → List ℕ → List Bool
marked ms [] = ms
marked ms (n ∷ ns) = marked (slice_set ms n true) ns

abbrev pub used_by : List Bool → ℕ → Ident → Outcome (Unit {0})
used_by ms n x = if slice_index_or ms (number n) false then Ok tt else Err (fault.Mismatch x.span Rule.Unused)

abbrev pub all_used_by : List Bool → ℕ → List Ident → Outcome (Unit {0})
all_used_by ms n [] = Ok tt
all_used_by ms n (x ∷ xs) = on_ok (used_by ms n x) (λ _. all_used_by ms (suc n) xs)

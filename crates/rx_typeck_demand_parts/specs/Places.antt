-- The dereferences that a place goes through, told by the place as it is written and its node's number.
use Rattle.std.specs.Prelude.{ℕ, suc, true, false, List, [], ◌∷◌}
use Rattle.rx_tree.specs.Plain as plain
use Rattle.rx_tree.specs.Plain.{Expression}
use Rattle.rx_typeck_solver.specs.declared.facts.Passing.{Passing}

abbrev pub through_at : Expression → ℕ → List Passing
through_at (plain.field s e x) n = record { node = suc n; all = true } ∷ through_at e (suc n)
through_at (plain.part s e i) n = record { node = suc n; all = true } ∷ through_at e (suc n)
through_at (plain.deref s e) n = record { node = suc n; all = false } ∷ through_at e (suc n)
through_at _ n = []

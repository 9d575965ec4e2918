-- Those so far are chosen of the list so far.
use Rattle.std.proofs.Common.{ℕ, List, take}
use Rattle.rx_exits_plan.specs.Asked.{Asked}
use Rattle.rx_exits_plan.specs.Plan.{Chosen}
use Rattle.rx_exits.specs.Choosing.{IsOf, Means}
use Rattle.rx_exits.proofs.choosing.chosen.Given as goal

abbrev pub invariant-loop-variable : goal.invariant-loop-variable
invariant-loop-variable l = (A : Asked) (ps : List ℕ) → IsOf A ps l.choice → Chosen (Means A ps l.choice) (take l.variable-index l.all) l.some

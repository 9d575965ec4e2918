-- By the plan, where the run is entered.
use Rattle.std.proofs.Common.{◌≡◌, ℕ, true, false, List, [], ◌∷◌, ◌++◌, subst}
use Rattle.rx_lower_walks.specs.Orders.{Order}
use Rattle.rx_lower_walks.specs.Walks.{IsWalk, Among}
use Rattle.rx_facts_tables.specs.Wholes.{stands, was_assigned}
use Rattle.rx_exits_plan.specs.Points as points
use Rattle.rx_exits_plan.specs.Marked.{shown}
use Rattle.rx_exits_plan.specs.Asked.{Asked}
use Rattle.rx_exits_plan.specs.Plan.{Plan, IsPlan}
use Rattle.rx_engine_related.specs.AboutRun.{text_of}
use Rattle.rx_engine_related.specs.Accepted.{Accepted}
use Rattle.rx_engine_initial.specs.Variables.{Sides}
use Rattle.rx_engine_initial.specs.Entered.{OnEach}
use Rattle.rx_engine_initial.specs.Planned.{IsTextOf, MeetsMark}
use Rattle.rx_engine_initial.proofs.Planned.{param_assigned, local_unset}

pub param_entered : (A : Asked) (k : Plan) → IsPlan A k → (S : Sides) → Accepted A S.muts_there → IsTextOf S A k → (q : Order) → MeetsMark S points.enters q → (y : ℕ) → Among y k.params
    → OnEach S q (λ w. was_assigned w y ≡ true)
param_entered A k plan S acc o q meets y i w r = param_assigned A S.muts_there acc k plan y i w (subst (λ g. IsWalk g (w ++ shown points.enters ∷ [])) o.text (meets w r))

pub local_entered : (A : Asked) (k : Plan) → IsPlan A k → (S : Sides) → Accepted A S.muts_there → IsTextOf S A k → (q : Order) → MeetsMark S points.enters q → (y : ℕ) → Among y k.locals
    → OnEach S q (λ w. stands w y [] ≡ false)
local_entered A k plan S acc o q meets y i w r = local_unset A S.muts_there acc k plan y i w (subst (λ g. IsWalk g (w ++ shown points.enters ∷ [])) o.text (meets w r))

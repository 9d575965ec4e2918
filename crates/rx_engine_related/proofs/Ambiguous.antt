-- A history with which the function comes behind the test, though it did not hold, goes on where it held.
use Rattle.std.proofs.Common.{ℕ, true, List, [], ◌∷◌, ◌++◌, refl}
use Rattle.rx_typed.specs.Tree as tree
use Rattle.rx_typed.specs.Tree.{Temporary, Parameter, own, temporary_at}
use Rattle.rx_lower_walks.specs.Matching.{equals}
use Rattle.rx_lower_walks.specs.Actions.{Read, Build, Test, Action, does}
use Rattle.rx_lower_walks.specs.Orders.{order, order_body, order_function, declared_parameter, written_parameter}
use Rattle.rx_lower_walks.specs.Walks as walk
use Rattle.rx_lower_walks.specs.Walks.{Walk}
use Rattle.rx_exits_plan.specs.Coming.{Into, all, in_second, in_scope}
use Rattle.rx_engine_simulation.specs.Histories.{put, now}
use Rattle.rx_engine_simulation.specs.Sights.{special, sight}
use Rattle.rx_engine_simulation.specs.Programs.{About, Untouched, begins, goes, facts_of}
use Rattle.rx_engine_simulation.specs.Blocks.{done, through_none}
use Rattle.rx_engine_simulation.specs.Arrivals.{past, AreDead, arrives_past}
use Rattle.rx_engine_related.specs.Ambiguous.{moves_perhaps, behind_it, branching}

abbrev first_parameter : Parameter
first_parameter = record { node = 2; variable = 0 }

abbrev there : Temporary
there = temporary_at 1 0

abbrev its : Temporary
its = temporary_at 3 0

-- the declaration and the value of the parameter, the value that is tested, the test
abbrev until : List Action
until =
    declared_parameter first_parameter ∷ written_parameter first_parameter
    ∷ does 4 (Build (tree.constant (tree.truth true)) [] [] (temporary_at 4 0)) ∷ does 5 (Test (tree.temporary_place (temporary_at 4 0)) (equals (tree.truth true))) ∷ []

abbrev move : Action
move = does 6 (Read true (own 0) its)

failing : Walk (order moves_perhaps its) (does 4 (Build (tree.constant (tree.truth true)) [] [] (temporary_at 4 0)) ∷ does 5 (Test (tree.temporary_place (temporary_at 4 0)) (equals (tree.truth true))) ∷ []) walk.on
failing = walk.both (walk.both walk.nothing walk.acts) (walk.next (walk.both walk.acts (walk.other walk.fail)) (walk.holds tt walk.nothing))

comes : Into (order_body (tree.runs moves_perhaps behind_it) 1 there) (order_function branching) (declared_parameter first_parameter ∷ written_parameter first_parameter ∷ [])
comes = in_second walk.acts (in_second walk.acts (in_scope all))

goes_on : Walk (order_function branching) (until ++ move ∷ []) walk.stopped
goes_on = walk.both walk.acts (walk.both walk.acts (walk.halts (walk.first tt (walk.stops (walk.both (walk.both walk.nothing walk.acts) (walk.holds tt (walk.both walk.acts (walk.one walk.acts))))))))

pub not_dead : (K : About) (u : Untouched branching K) (y : ℕ) → AreDead (facts_of branching K u) ((0, sight y special) ∷ []) (past (tree.runs moves_perhaps behind_it) done moves_perhaps) → ⊥
not_dead K u y dead = dead 0 y refl (put until []) (arrives_past 1 there (goes comes begins) through_none failing) (now move ([], walk.stopped, goes_on) refl)

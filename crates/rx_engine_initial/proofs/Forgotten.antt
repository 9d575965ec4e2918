-- On a walk of that function the variable is read where it is unset.
use Rattle.std.proofs.Common.{◌≡◌, ℕ, true, false, List, [], ◌∷◌, ◌++◌, refl}
use Rattle.rx_typed.specs.Tree.{own, temporary_at}
use Rattle.rx_lower_walks.specs.Actions.{Declare, Read, Call, Action, does}
use Rattle.rx_lower_walks.specs.Walks.{stopped, stops, nothing, acts, both, first, halts, IsWalk}
use Rattle.rx_facts_tables.specs.Initialised.{Initialised}
use Rattle.rx_engine_initial.specs.Forgotten.{one_boolean, none_mut, forgetting}
use Rattle.rx_engine_initial.proofs.Ways.{no}

abbrev reads_it : Action
reads_it = does 6 (Read false (own 0) (temporary_at 6 0))

abbrev in_front : List Action
in_front = does 2 (Declare 0) ∷ does 3 (Call 5 [] (temporary_at 3 0)) ∷ []

comes_there : IsWalk forgetting (in_front ++ reads_it ∷ [])
comes_there = ([], stopped, both acts (halts (both (both nothing acts) (first tt (first tt (stops acts))))))

pub not_initialised : Initialised one_boolean none_mut forgetting → ⊥
not_initialised init = no ((init in_front reads_it comes_there).looks (own 0) refl 0 refl)

-- On a walk of the one a part is written of what does not stand; on one of another a variable that isn't declared `mut` is assigned again; on one of
-- the last a variable is read that is not set.
use Rattle.std.proofs.Common.{ℕ, true, false, [], ◌∷◌, ◌++◌, refl, sym, true≢false}
use Rattle.rx_core.specs.declared.types.Step.TheVariants as step
use Rattle.rx_typed.specs.Types.{boolean}
use Rattle.rx_typed.specs.Tree as tree
use Rattle.rx_typed.specs.Tree.{own, under, temporary_at}
use Rattle.rx_lower_walks.specs.Actions.{Declare, Read, Write, Call, Build, Action, does}
use Rattle.rx_lower_walks.specs.Walks.{stopped, stops, nothing, acts, both, first, halts, IsWalk}
use Rattle.rx_facts_tables.specs.Initialised.{Initialised}
use Rattle.rx_engine_initial_typed.specs.Wrong.{one_of, two_booleans, one_mut, entering_a_part, assigning_again, forgetting_an_out}

abbrev made : ℕ → Action
made n = does n (Build (tree.constant (tree.truth true)) [] [] (temporary_at n 0))

abbrev writes_part : Action
writes_part = does 3 (Write (under (own 0) (step.Field 0 ∷ [])) (temporary_at 4 0) [])

abbrev writes_it : ℕ → ℕ → Action
writes_it n m = does n (Write (own 0) (temporary_at m 0) [])

comes_to_part : IsWalk entering_a_part ((does 2 (Declare 0) ∷ made 4 ∷ []) ++ writes_part ∷ [])
comes_to_part = ([], stopped, both acts (halts (first tt (stops (both (both nothing acts) acts)))))

pub enters_nothing : Initialised (one_of two_booleans) (one_mut true) entering_a_part → ⊥
enters_nothing init = true≢false (sym ((init (does 2 (Declare 0) ∷ made 4 ∷ []) writes_part comes_to_part).enters 0 [] refl))

comes_again : IsWalk assigning_again ((does 2 (Declare 0) ∷ made 4 ∷ writes_it 3 4 ∷ made 6 ∷ []) ++ writes_it 5 6 ∷ [])
comes_again = ([], stopped, both acts (halts (both (both (both nothing acts) acts) (first tt (stops (both (both nothing acts) acts))))))

pub assigns_again : Initialised (one_of boolean) (one_mut false) assigning_again → ⊥
assigns_again init = true≢false ((init (does 2 (Declare 0) ∷ made 4 ∷ writes_it 3 4 ∷ made 6 ∷ []) (writes_it 5 6) comes_again).assigns 0 refl refl)

abbrev calls_it : Action
calls_it = does 3 (Call 1 [] (temporary_at 3 0))

abbrev reads_it : Action
reads_it = does 4 (Read false (own 0) (temporary_at 1 0))

comes_to_read : IsWalk forgetting_an_out ((does 2 (Declare 0) ∷ calls_it ∷ []) ++ reads_it ∷ [])
comes_to_read = ([], stopped, both acts (halts (both (both nothing acts) (stops acts))))

pub reads_unset : Initialised (one_of boolean) (one_mut false) forgetting_an_out → ⊥
reads_unset init = true≢false (sym ((init (does 2 (Declare 0) ∷ calls_it ∷ []) reads_it comes_to_read).looks (own 0) refl 0 refl))

-- What is asked besides of the new function, where the relation of trees has its call in place of the run: what it has in slots is of the text's types,
-- and along its statements and its end as rx_engine_initial_related asks. (REM: "Adventures in refactoring Rust: extract function", OOPSLA 2023.)
use Rattle.std.specs.Prelude.{◌≡◌, ℕ, List, Some}
use Rattle.rx_typed.specs.Tree.{Body}
use Rattle.rx_exits_plan.specs.Asked.{Asked}
use Rattle.rx_exits_plan.specs.Plan.{Plan}
use Rattle.rx_modes_policy.specs.declared.uses.Mode.{Mode}
use Rattle.rx_engine_simulation.specs.Turns.{Allowance}
use Rattle.rx_engine_simulation.specs.Sights.{Sight, Renaming, sight_of}
use Rattle.rx_engine_simulation.specs.Places.{IsDirect}
use Rattle.rx_engine_simulation.specs.Jumps.{Jumping}
use Rattle.rx_engine_simulation.specs.Passing.{New}
use Rattle.rx_engine_simulation.specs.Histories.{Facts}
use Rattle.rx_engine_simulation.specs.Like.{LikeBody, opens_in, ends_in, runs_on, declares_all, lets_in, reads_place, looks_behind}
use Rattle.rx_engine_related.specs.Standing.{RunBecomesCall, run_becomes_call, the_call}
use Rattle.rx_engine_initial.specs.Variables.{Sides, LikeVariable}
use Rattle.rx_engine_initial_related.specs.Moving.{StretchMoves}
use Rattle.rx_engine_initial_related.specs.Ending.{EndMoves}

abbrev pub NewSo : (S : Sides) {A : Asked} {k : Plan} {modes : List Mode} {items : ℕ → ℕ} {gain : Allowance} {U : List ℕ} {N : New} {a : ℕ} {J : Jumping} {R Rn : Renaming} {b : Body} {f g : Body → Body}
    → RunBecomesCall A S.muts_there k modes items gain U N a J R Rn b f g → Type 0
NewSo S (run_becomes_call Ra Rb mb ls body given moved ended never call handed) = ((x : ℕ) (e : Sight) → sight_of Ra x ≡ Some e → IsDirect e.how → LikeVariable S e.to x) × StretchMoves S moved × EndMoves S ended

-- along the run's block, up to the call
abbrev pub CallsSo : (S : Sides) {A : Asked} {k : Plan} {modes : List Mode} {items : ℕ → ℕ} {gain : Allowance} {U : List ℕ} {N : New} {V : Facts} {i : ℕ} {J : Jumping} {R : Renaming} {b b' : Body}
    → LikeBody items (the_call A S.muts_there k modes items gain U N) gain V i J R b b' → Type 0
CallsSo S (opens_in a i h o l) = NewSo S o
CallsSo S (ends_in l) = Unit {0}
CallsSo S (runs_on i j h a l) = CallsSo S l
CallsSo S (declares_all M d l) = CallsSo S l
CallsSo S (lets_in M i j h c b l) = CallsSo S l
CallsSo S (reads_place l) = ⊥
CallsSo S (looks_behind x e a l) = ⊥

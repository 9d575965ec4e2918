-- What becomes, by the plan of a run, of a variable that is in scope behind the run's call, where the run is left by an exit. (REM: "Adventures in refactoring Rust: extract
-- function", OOPSLA 2023.)
use Rattle.std.specs.Prelude.{◌≡◌, ℕ, false, List, ◌∷◌, ◌++◌}
use Rattle.rx_core.specs.declared.types.Step.{Step}
use Rattle.rx_typed.specs.Tree.{Temporary, own}
use Rattle.rx_lower_walks.specs.Actions.{Declare, Write, Action, does}
use Rattle.rx_lower_walks.specs.Walks.{Among}
use Rattle.rx_facts_tables.specs.Wholes.{assigns, begins}
use Rattle.rx_exits_plan.specs.Points.{Exit}
use Rattle.rx_exits_plan.specs.Asked.{Asked, IsLiveAt}
use Rattle.rx_exits_plan.specs.Plan.{Plan, variables_of, foreign_of}
use Rattle.rx_engine_simulation.specs.Sights.{In}
use Rattle.rx_engine_related.specs.AboutRun.{special_of}
use Rattle.rx_engine_initial.specs.Variables.{as_itself, Sides, KnownVariables}
use Rattle.rx_engine_initial.specs.Fates.{AllLeave}

-- `us`: what the caller does in place of the run; `x` is for the text's `y`
pub data Becomes (S : Sides) (A : Asked) (k : Plan) (e : Exit) (R : KnownVariables S) (us : List Action) (x y : ℕ) : Type 0 where
  -- the run does not name it
  is_unnamed : Among (as_itself x y) R.variables → (Among y (variables_of A) → ⊥) → AllLeave us x → Becomes S A k e R us x y
  -- a param that is lent or copied
  is_lent : Among (as_itself x y) R.variables → Among y k.params → AllLeave us x → Becomes S A k e R us x y
  -- the exit hands it out: it is written, and not touched behind that
  is_handed : Among y (k.outs e) → (before behind : List Action) (n : ℕ) (t : Temporary) (ss : List Step) → us ≡ before ++ does n (Write (own x) t ss) ∷ behind
      → AllLeave behind x → Becomes S A k e R us x y
  -- a param that is given away, or a local, which is not handed out
  is_gone : Among (as_itself x y) R.variables → In y (special_of A S.muts_there k) → Among y (foreign_of A) → (Among y (k.outs e) → ⊥)
      → ((a : Action) → Among a us → (assigns x a.act ≡ false) × (begins x a.act ≡ false)) → Becomes S A k e R us x y
  -- what is passed by value moves, and no walk needs it on from the exit
  is_spent : Among (as_itself x y) R.variables → Among y (foreign_of A) → ¬ (IsLiveAt A k.params e y) → ((a : Action) → Among a us → (assigns x a.act ≡ false) × (begins x a.act ≡ false)) → Becomes S A k e R us x y
  -- the run declares it, and so does the caller again
  is_again : In y (special_of A S.muts_there k) → (Among y (k.outs e) → ⊥) → (before behind : List Action) (n : ℕ) → us ≡ before ++ does n (Declare x) ∷ behind
      → AllLeave behind x → Becomes S A k e R us x y

-- What stands for the run, and the new function, as rx_engine_made_trees has them together: from what stands in place of the run, and the new function's body.
use Rattle.std.specs.Prelude.{ℕ, Bool, List}
use Rattle.rx_typed.specs.declared.nodes.Node.{Node}
use Rattle.rx_typed.specs.Tree.{Parameter}
use Rattle.rx_typed.specs.Named.{Else, Statements}
use Rattle.rx_typed.specs.Elaborated.{Assigned}
use Rattle.rx_exits_plan.specs.Asked.{Asked}
use Rattle.rx_exits_plan.specs.Plan.{Plan}
use Rattle.rx_modes_policy.specs.declared.uses.Mode.{Mode}
use Rattle.rx_engine_simulation.specs.Sights.{How, Renaming}
use Rattle.rx_engine_simulation.specs.Jumps.{Jumping}
use Rattle.rx_engine_made_trees.specs.Standing.{Answered}
use Rattle.rx_engine_made_calls.specs.MadeCalls.{MadeCall, MadeTail}
use Rattle.rx_engine_made_calls.specs.NewEnds.{BeginsSo}

-- the new function: its parameters, and a body of locals, the run's statements, and a tail
pub record NewBody : Type 0 where
  pub params : List Parameter
  pub rest : Statements
  pub all : Statements
  pub node : Node
  pub end : Else

abbrev pub answered : (T S : Assigned) (g : ℕ) → {A : Asked} {muts : List Bool} {k : Plan} {modes : List Mode} {again : Bool} {J : Jumping} {R : Renaming} {cold : List ℕ} {hows : List How} {enum unit : Bool} {y : Statements} → MadeCall T A muts k modes again J R cold hows g enum unit y
    → (N : NewBody) → {xs ls : List ℕ} {rest : Statements} → BeginsSo xs ls N.params rest N.all → Answered
answered T S g m N b = record { T = T; S = S; g = g; es = m.es; e = m.e; ss = m.ss; ds = m.ds; params = N.params; locals = b.locals; rs = N.rest; all = N.all; node = N.node; end = N.end }

abbrev pub answered_tail : (T S : Assigned) (g : ℕ) → {A : Asked} {muts : List Bool} {k : Plan} {modes : List Mode} {again : Bool} {J : Jumping} {R : Renaming} {cold : List ℕ} {hows : List How} {enum unit has : Bool} {y : Statements} {o : Else}
    → MadeTail T A muts k modes again J R cold hows g enum unit has y o → (N : NewBody) → {xs ls : List ℕ} {rest : Statements} → BeginsSo xs ls N.params rest N.all → Answered
answered_tail T S g m N b = record { T = T; S = S; g = g; es = m.es; e = m.e; ss = m.ss; ds = m.ds; params = N.params; locals = b.locals; rs = N.rest; all = N.all; node = N.node; end = N.end }

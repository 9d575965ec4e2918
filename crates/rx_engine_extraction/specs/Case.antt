-- What is decided of an extraction, one thing after another: the run in its function, its plan by numbers, how its params are passed,
-- the bounds of the new function, by the types that the program with the call has, and the text. Which of it is right, the conditions say.
use Rattle.std.specs.Prelude.{ℕ, Bool, List}
use Rattle.rx_core.specs.declared.types.Bound.{Bound}
use Rattle.rx_typed_runs.specs.declared.runs.RunPos.{RunPos}
use Rattle.rx_typeck_typed.specs.declared.typed.Typed.{Typed}
use Rattle.rx_typeck_typed.specs.declared.typed.TypedFn.{TypedFn}
use Rattle.rx_facts.specs.Functions.{body, frame_of}
use Rattle.rx_exits_plan.specs.Runs.{Home}
use Rattle.rx_exits_plan.specs.Asked.{Asked}
use Rattle.rx_exits_plan.specs.Plan.{Plan}
use Rattle.rx_exits_plan.specs.declared.plan.ExitPlan.{ExitPlan}
use Rattle.rx_modes_policy.specs.declared.uses.Mode.{Mode}
use Rattle.rx_hoist_nodes.specs.TypedRun.{typed_run}
use Rattle.rx_engine_extraction.specs.Source.{Text, declared_in}

pub record Case : Type 0 where
  pub run : RunPos
  -- the function of the run, and the block that the run sits in
  pub function : TypedFn
  pub home : Home
  -- its exits, and what goes in and out; the same as lists
  pub plan : Plan
  pub listed : ExitPlan
  -- how each param is passed, and whether the run moves it or a part of its own storage
  pub modes : List Mode
  pub moved : List Bool
  -- of the program with the call, without bounds: its types, the new function, and the bounds that this needs
  pub types : Typed
  pub made : TypedFn
  pub bounds : List Bound
  -- the text of the program with the call and bounds
  pub text : List ℕ

-- the run in the typed tree of its function
abbrev pub asked : Text → Case → Asked
asked T d = record {
  function = body d.function;
  run = typed_run T.program d.run;
  home = d.home;
  frame = frame_of (declared_in T) T.sizes d.function;
}

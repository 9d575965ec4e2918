-- What is asked of, of a function of a typed program: its tree, the types of its variables, a run, and the block that the run sits in.
-- (REM, OOPSLA 2023.)
use Rattle.std.specs.Prelude.{ℕ}
use Rattle.rx_typed.specs.Types.{Declarations}
use Rattle.rx_typeck_typed.specs.declared.typed.TypedFn.{TypedFn}
use Rattle.rx_facts.specs.Functions.{body, frame_of}
use Rattle.rx_exits_plan.specs.Runs.{Home}
use Rattle.rx_exits_plan.specs.declared.plan.Run.{Run}
use Rattle.rx_exits_plan.specs.PlainPlan.{plain-Run}
use Rattle.rx_exits_plan.specs.Asked.{Asked}

-- by what is declared, and how many parts each struct and enum has
abbrev pub asked_of : Declarations → (ℕ → ℕ) → TypedFn → Run → Home → Asked
asked_of D P f r h = record { function = body f; run = plain-Run r; home = h; frame = frame_of D P f }

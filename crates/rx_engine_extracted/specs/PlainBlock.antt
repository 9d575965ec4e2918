-- Parts of what is asked of the run's block that have a function each.
use Rattle.std.specs.Prelude.{ℕ, List, Option}
use Rattle.rx_typed.specs.Tree.{Exp, Body}
use Rattle.rx_exits_plan.specs.Points.{next}
use Rattle.rx_engine_simulation.specs.Sights.{Renaming}
use Rattle.rx_engine_simulation.specs.Jumps.{Jumping}
use Rattle.rx_engine_alike.specs.Likeness.{and_then}
use Rattle.rx_engine_alike.specs.Forms.{Between}
use Rattle.rx_engine_extracted.specs.Told.{Told, ways_in}
use Rattle.rx_engine_extracted.specs.Stretches.{Passed}
use Rattle.rx_engine_extracted.specs.Handing.{Put, hands_back}
use Rattle.rx_engine_extracted.specs.Calls.{called_by}
use Rattle.rx_engine_extracted.specs.Block.{function_runs, stands_for}

abbrev pub between_with : Told → List ℕ → Option ℕ → Between
between_with T outside node = record { items = T.items; ways = ways_in T; units = T.units; outside = outside; left_open = node }

-- the expression is the call, and the new function does what the run does
abbrev pub call_runs : Told → Jumping → Renaming → Body → Exp → Option Renaming
call_runs T J R text e = and_then (called_by T J R e) (λ K. function_runs T K R text)

-- what stands for the run is the call, by the renaming without what is handed out
abbrev pub call_stands : Told → Jumping → Passed → Renaming → Option Put
call_stands T J p Rs = and_then (hands_back T p.inside Rs (T.plan.outs next) p.answer) (λ S. stands_for T J p S)

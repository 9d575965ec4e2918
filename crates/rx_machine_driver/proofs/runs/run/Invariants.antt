use Rattle.std.proofs.Common.{◌-◌}
use Rattle.rx_meaning.specs.Programs.{run}
use Rattle.rx_machine_driver.specs.Fitting.{functions_of}
use Rattle.rx_machine_driver.specs.Running.{Pauses}
use Rattle.rx_machine_driver.proofs.runs.run.Given as goal

abbrev pub invariant-loop-turn : goal.invariant-loop-turn
invariant-loop-turn l =
    Pauses (functions_of l.fn.functions) l.fn.turns (l.fn.turns - l._turn) l.machine l.paused (run (record { functions = functions_of l.fn.functions; main = l.fn.main }) l.fn.input l.fn.turns)

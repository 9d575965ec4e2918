use Rattle.std.proofs.Common.{Some, drop}
use Rattle.rx_machine_frames.specs.Choosing.{declare_all}
use Rattle.rx_machine_driver.specs.Running.{Through}
use Rattle.rx_machine_driver.proofs.data.Machine.declare_all.Given as goal

abbrev pub invariant-loop-i : goal.invariant-loop-i
invariant-loop-i l = Through (λ s. Some (declare_all l.fn.variables s)) l.fn.self l.self (λ s. Some (declare_all (drop l.i l.variables) s))

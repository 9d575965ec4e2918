use Rattle.std.proofs.Common.{map, reverse, drop}
use Rattle.rx_typed.specs.PlainTree.{plain-Param}
use Rattle.rx_machine_values.specs.PlainValues.{plain-Value}
use Rattle.rx_machine_frames.specs.Choosing.{fill_all}
use Rattle.rx_machine_driver.specs.Running.{Through}
use Rattle.rx_machine_driver.proofs.data.Machine.fill.Given as goal

abbrev pub invariant-loop-i : goal.invariant-loop-i
invariant-loop-i l =
    Through (λ s. fill_all (map plain-Param l.fn.params) (reverse (map plain-Value l.fn.arguments)) s) l.fn.self l.self
    (λ s. fill_all (map plain-Param (drop l.i l.params)) (reverse (map plain-Value l.left)) s)

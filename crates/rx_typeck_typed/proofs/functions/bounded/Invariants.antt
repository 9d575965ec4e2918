use Rattle.std.proofs.Common.{◌≡◌, ◌++◌, drop}
use Rattle.rx_typeck_typed.specs.Items.{bounded}
use Rattle.rx_typeck_typed.proofs.functions.bounded.Given as goal

abbrev pub invariant-loop-i : goal.invariant-loop-i
invariant-loop-i l = l.longs ++ bounded l.i (drop l.i l.lifetimes) ≡ bounded 0 l.fn.lifetimes

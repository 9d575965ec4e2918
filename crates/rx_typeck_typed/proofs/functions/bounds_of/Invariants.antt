use Rattle.std.proofs.Common.{◌≡◌, ◌++◌, drop}
use Rattle.rx_typeck_typed.specs.Items.{bounds_of}
use Rattle.rx_typeck_typed.proofs.functions.bounds_of.Given as goal

abbrev pub invariant-loop-long : goal.invariant-loop-long
invariant-loop-long l = l.bounds ++ bounds_of (drop l.long-index l.longs) l.shorts ≡ bounds_of l.fn.longs l.fn.shorts

-- The closed ones so far, and those of what is left, are those of all.
use Rattle.std.proofs.Common.{◌≡◌, ◌++◌, length}
use Rattle.rx_engine_extracted.specs.Told.{closed_of}
use Rattle.rx_engine_extracted.proofs.told.closed_of.Given as goal

abbrev pub invariant-loop-left : goal.invariant-loop-left
invariant-loop-left l = l.closed.items ++ closed_of l.moved l.left l.right ≡ closed_of l.moved l.params l.modes

abbrev pub decreases-loop-left : goal.decreases-loop-left
decreases-loop-left l = length l.left

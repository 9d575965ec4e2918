-- Those so far, and those of what is left, are those of all.
use Rattle.std.proofs.Common.{◌≡◌, ◌++◌, length}
use Rattle.rx_engine_extraction.specs.Confirming.{given_among}
use Rattle.rx_engine_extraction.proofs.told.given_among.Given as goal

abbrev pub invariant-loop-left : goal.invariant-loop-left
invariant-loop-left l = l.numbers.items ++ given_among l.left l.right ≡ given_among l.params l.given

abbrev pub decreases-loop-left : goal.decreases-loop-left
decreases-loop-left l = length l.left

-- The bytes before are the same.
use Rattle.std.proofs.Common.{◌≡◌, length}
use Rattle.rx_core.specs.Bytes.{same_bytes}
use Rattle.rx_core.proofs.words.is_same.Given as goal

abbrev pub invariant-loop-left : goal.invariant-loop-left
invariant-loop-left l = same_bytes l.left l.right ≡ same_bytes l.a l.b

abbrev pub decreases-loop-left : goal.decreases-loop-left
decreases-loop-left l = length l.left

-- The items so far, and what is left.
use Rattle.std.proofs.Common.{length}
use Rattle.rx_cert_lines.proofs.ItemTexts.{ItemsSoFar}
use Rattle.rx_cert_lines.proofs.reader.items.Given as goal

abbrev pub invariant-loop-left : goal.invariant-loop-left
invariant-loop-left l = ItemsSoFar l.bytes l.left l.items.items

abbrev pub decreases-loop-left : goal.decreases-loop-left
decreases-loop-left l = length l.left

-- What follows those that are left is what follows all.
use Rattle.std.proofs.Common.{◌≡◌}
use Rattle.rx_engine_alike.specs.PlainParts.{plain-Part}
use Rattle.rx_engine_extracted.specs.Stretches.{behind_first}
use Rattle.rx_engine_extracted.proofs.stretches.behind_first.Given as goal

abbrev pub invariant-loop-left : goal.invariant-loop-left
invariant-loop-left l = behind_first l.left (plain-Part l.rest) ≡ behind_first l.fn.count (plain-Part l.fn.body)

abbrev pub decreases-loop-left : goal.decreases-loop-left
decreases-loop-left l = l.left

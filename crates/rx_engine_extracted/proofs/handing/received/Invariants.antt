-- What is left of both, with the variables so far, is as from their beginning.
use Rattle.std.proofs.Common.{◌≡◌, length}
use Rattle.rx_engine_alike.specs.PlainSights.{plain-Renaming}
use Rattle.rx_engine_extracted.specs.Handing.{received}
use Rattle.rx_engine_extracted.proofs.handing.received.Given as goal

abbrev pub invariant-loop-left : goal.invariant-loop-left
invariant-loop-left l =
    received (plain-Renaming l.outer) (plain-Renaming l.inner.items) l.left l.right ≡ received (plain-Renaming l.fn.outer) (plain-Renaming l.fn.inner.items) l.fn.variables l.fn.others

abbrev pub decreases-loop-left : goal.decreases-loop-left
decreases-loop-left l = length l.left

-- What is left of both, with the variables so far, is as from their beginning.
use Rattle.std.proofs.Common.{◌≡◌, length}
use Rattle.rx_engine_alike.specs.PlainSights.{plain-Renaming}
use Rattle.rx_engine_extracted.specs.Entering.{with_locals_of}
use Rattle.rx_engine_alike.specs.PlainParts.{plain-Part}
use Rattle.rx_engine_extracted.proofs.entering.with_locals_of.Given as goal

abbrev pub invariant-loop-left : goal.invariant-loop-left
invariant-loop-left l =
    with_locals_of (plain-Renaming l.outer) (plain-Renaming l.inner.items) l.left (plain-Part l.rest)
    ≡ with_locals_of (plain-Renaming l.fn.outer) (plain-Renaming l.fn.inner.items) l.fn.locals (plain-Part l.fn.body)

abbrev pub decreases-loop-left : goal.decreases-loop-left
decreases-loop-left l = length l.left

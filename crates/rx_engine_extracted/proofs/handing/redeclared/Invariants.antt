-- What is left of both, with the variables so far, is as from their beginning.
use Rattle.std.proofs.Common.{◌≡◌, length}
use Rattle.rx_engine_alike.specs.PlainSights.{plain-Renaming}
use Rattle.rx_engine_extracted.specs.Handing.{redeclared}
use Rattle.rx_engine_alike.specs.PlainParts.{plain-Part}
use Rattle.rx_engine_extracted.proofs.handing.redeclared.Given as goal

abbrev pub invariant-loop-left : goal.invariant-loop-left
invariant-loop-left l =
    redeclared (plain-Renaming l.there) (plain-Renaming l.inner.items) l.left (plain-Part l.rest)
    ≡ redeclared (plain-Renaming l.fn.there) (plain-Renaming l.fn.inner.items) l.fn.variables (plain-Part l.fn.body)

abbrev pub decreases-loop-left : goal.decreases-loop-left
decreases-loop-left l = length l.left

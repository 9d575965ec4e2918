-- What is left of all, with the variables so far, is as from their beginning.
use Rattle.std.proofs.Common.{◌≡◌, length}
use Rattle.rx_engine_alike.specs.PlainSights.{plain-Renaming}
use Rattle.rx_engine_extracted.specs.Handing.{put_back}
use Rattle.rx_engine_alike.specs.PlainParts.{plain-Part}
use Rattle.rx_engine_extracted.specs.PlainTold.{plain-Told}
use Rattle.rx_engine_extracted.proofs.handing.put_back.Given as goal

abbrev pub invariant-loop-left : goal.invariant-loop-left
invariant-loop-left l =
    put_back (plain-Told l.told) (plain-Renaming l.outer) (plain-Renaming l.inner.items) l.left l.right (plain-Part l.rest)
    ≡ put_back (plain-Told l.fn.told) (plain-Renaming l.fn.outer) (plain-Renaming l.fn.inner.items) l.fn.variables l.fn.others (plain-Part l.fn.body)

abbrev pub decreases-loop-left : goal.decreases-loop-left
decreases-loop-left l = length l.left

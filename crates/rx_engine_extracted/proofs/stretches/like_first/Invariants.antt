-- Those that are left, with the variables so far, are as from the beginning.
use Rattle.std.proofs.Common.{◌≡◌}
use Rattle.rx_engine_alike.specs.PlainParts.{plain-Part}
use Rattle.rx_engine_extracted.specs.PlainStretches.{first_alike}
use Rattle.rx_engine_extracted.proofs.stretches.like_first.Given as goal

abbrev pub invariant-loop-left : goal.invariant-loop-left
invariant-loop-left l =
    first_alike l.between l.jumping l.left l.renaming.items (plain-Part l.rest.text) (plain-Part l.rest.answer)
    ≡ first_alike l.fn.between l.fn.jumping l.fn.count l.fn.renaming.items (plain-Part l.fn.passed.text) (plain-Part l.fn.passed.answer)

abbrev pub decreases-loop-left : goal.decreases-loop-left
decreases-loop-left l = l.left

use Rattle.std.proofs.Common.{refl}
use Rattle.rx_typed.specs.Renaming.{argument, all_renamed}
use Rattle.rx_typed.proofs.Loops.{renamed_turn, rest_end}
use Rattle.rx_typed.proofs.renaming.+renamed.Goals as goal

pub all_renamed-loop-part-preserved : goal.all_renamed-loop-part-preserved
all_renamed-loop-part-preserved t c =
    renamed_turn (argument c.args.arguments.now) c.args.parts.now c.loop-part.part-index c.part-item.result c.in_ok-one.one c.loop-part.all c.in_ok-one.held c.in_ok-all.all c.renamed.result _
    c.loop-part-test.true c.part-item.is c.in_ok-one.ensures.0 c.in_ok-one.ensures.1 c.renamed.ensures c.in_ok-all.ensures c.loop-part.invariant

pub all_renamed-returns : goal.all_renamed-returns
all_renamed-returns t c =
    rest_end (all_renamed (argument c.args.arguments.now)) c.args.parts.now c.loop-part.all c.loop-part.part-index _ c.loop-part-test.false refl c.loop-part.invariant

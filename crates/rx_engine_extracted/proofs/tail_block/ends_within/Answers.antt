use Rattle.std.proofs.Common.{◌∙◌, None}
use Rattle.rx_typed.specs.PlainTree.{plain-Expr}
use Rattle.rx_engine_alike.specs.PlainSights.{plain-Renaming}
use Rattle.rx_engine_alike.specs.PlainParts.{plain-Part}
use Rattle.rx_engine_extracted.specs.TailEnding.{ran_to_tail}
use Rattle.rx_engine_extracted.specs.PlainTold.{plain-Told}
use Rattle.rx_engine_extracted.specs.PlainCalls.{plain-GivenWay}
use Rattle.rx_engine_extracted.specs.PlainBlock.{between_with}
use Rattle.rx_engine_extracted.proofs.BlockLemmas.{told_as}
use Rattle.rx_engine_extracted.proofs.tail_block.ends_within.Goals as goal

pub returns : goal.returns
returns c =
    c.in_ok-so.ensures
    ∙ told_as c.in_ok-within.within (between_with (plain-Told c.args.told.now) c.args.told.now.around.now None) c.args.called.now.jumping
    (λ C J. ran_to_tail c.args.tail.has C J (plain-GivenWay c.args.end.way) c.args.end.outs.now c.args.told.now.run.count (plain-Renaming c.args.inside.now.items) (plain-Part c.args.passed.text)
    (plain-Expr c.args.tail.expr.now) (plain-Part c.args.passed.answer))
    c.in_ok-within.ensures

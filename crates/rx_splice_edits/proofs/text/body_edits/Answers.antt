use Rattle.rx_tree.specs.PlainOf.{plain-Block}
use Rattle.rx_splice_edits.specs.Deciding.{pins_at}
use Rattle.rx_splice_edits.proofs.RunLemmas.{body_written}
use Rattle.rx_splice_edits.proofs.text.body_edits.Goals as goal

pub returns : goal.returns
returns c =
    body_written (pins_at c.args.pinning.now.decided) c.new-own.result c.new-around.result (plain-Block c.args.body.now) c.new-out.result c.block.new.out c.new-out.ensures c.new-own.ensures c.new-around.ensures
    c.in_ok-block.ensures

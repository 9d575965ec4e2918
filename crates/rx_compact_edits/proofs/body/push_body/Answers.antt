use Rattle.std.proofs.Common.{[]}
use Rattle.rx_tree.specs.PlainOf.{plain-Block}
use Rattle.rx_compact_lifetimes.specs.Rewritten.{becomes}
use Rattle.rx_compact_text.specs.CompactedText.{becomes_both}
use Rattle.rx_compact_edits.proofs.Writing.{becomes_one, body_written}
use Rattle.rx_compact_edits.proofs.body.push_body.Goals as goal

pub returns : goal.returns
returns c = let rs = c.args.rewritings.now in
    body_written c.args.text.now (becomes_both rs []) (becomes rs) c.new-own.result c.new-around.result (plain-Block c.args.body.now) c.args.out.now c.block.new.out
    c.new-own.ensures c.new-around.ensures (becomes_one rs) c.in_ok-block.ensures

-- One item more is added.
use Rattle.std.proofs.Common.{refl, get_or}
use Rattle.rx_cert_lines.specs.declared.item.Item.TheVariants.{Number}
use Rattle.rx_cert_lines.proofs.ItemTexts.{one_more_written}
use Rattle.rx_cert_lines.proofs.write.push_items.Goals as goal

pub loop-item-preserved : goal.loop-item-preserved
loop-item-preserved c = let is = c.args.items.now in let k = c.loop-item.item-index in
    one_more_written c.args.text.now c.loop-item.text c.push.new.self c.push_item.new.text is (get_or is k (Number 0)) k (Number 0) c.loop-item-test.true refl
    c.loop-item.invariant c.in_ok-push.ensures.ok c.in_ok-push_item.ensures

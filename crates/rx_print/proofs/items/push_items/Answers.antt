-- The goals that no tactic closes: by the lemmas of texts and lists written one part after the other.
use Rattle.rx_print.proofs.WrittenItems.{items_step}
use Rattle.rx_print.proofs.items.push_items.Goals as goal

pub loop-item-preserved : goal.loop-item-preserved
loop-item-preserved c =
    items_step c.loop-item.follows c.args.list.now c.loop-item.item-index c.item-item.result c.loop-item.out c.push_next.new.out _ c.loop-item-test.true c.item-item.is
    c.in_ok-push_next.ensures c.loop-item.invariant

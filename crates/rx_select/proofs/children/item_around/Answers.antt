use Rattle.std.proofs.Common.{sym, ◌∙◌}
use Rattle.rx_select.proofs.Around.{item_here, no_item_more, no_items}
use Rattle.rx_select.proofs.children.item_around.Goals as goal

pub returns-then-is_item_around : goal.returns-then-is_item_around
returns-then-is_item_around c =
    (item_here c.args.items.now c.loop-number.number c.index-items-number.result c.loop-number-test.true c.index-items-number.is, sym c.if-is_item_around.ensures)

pub loop-number-preserved : goal.loop-number-preserved
loop-number-preserved c =
    no_item_more c.args.places c.args.items.now c.loop-number.number c.index-items-number.result c.loop-number-test.true c.index-items-number.is (sym c.if-is_item_around.ensures) c.loop-number.invariant

pub returns : goal.returns
returns c = no_items c.args.places c.args.items.now c.loop-number.number c.loop-number-test.false c.loop-number.invariant

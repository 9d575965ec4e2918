-- What an item holds is added.
use Rattle.std.proofs.Common.{◌+◌, drop, get_or, refl, arith}
use Rattle.std.proofs.lemmas.List.{drop_all}
use Rattle.rx_cert_lines.specs.declared.item.Item.TheVariants.{Number}
use Rattle.rx_cert_tables.proofs.Filled.{filling_none, filling_room, filling_more, filling_all, next_item}
use Rattle.rx_cert_tables.proofs.reading.row_of.Goals as goal

pub loop-item-init : goal.loop-item-init
loop-item-init c = filling_none c.args.sites c.args.own c.args.items.now c.in_ok-row.row c.in_ok-row.ensures.width c.in_ok-row.ensures.empty

pub add_item-requires : goal.add_item-requires
add_item-requires c = filling_room c.args.sites c.args.own c.args.items.now (drop c.loop-item.item-index c.args.items.now) c.loop-item.row c.loop-item.invariant

pub loop-item-preserved : goal.loop-item-preserved
loop-item-preserved c = let is = c.args.items.now in let k = c.loop-item.item-index in
    filling_more c.args.sites c.args.own is (drop k is) (drop (k + 1) is) (get_or is k (Number 0)) c.loop-item.row c.add_item.new.row
    (next_item is k (get_or is k (Number 0)) (Number 0) c.loop-item-test.true refl) c.add_item.ensures c.loop-item.invariant

pub returns : goal.returns
returns c =
    filling_all c.args.sites c.args.own c.args.items.now (drop c.loop-item.item-index c.args.items.now) c.loop-item.row
    (drop_all c.loop-item.item-index c.args.items.now (omega arith)) c.loop-item.invariant

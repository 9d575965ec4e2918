use Rattle.std.proofs.Common.{◌++◌, ap, ◌∙◌, map}
use Rattle.std.proofs.lemmas.List.{take_all}
use Rattle.rx_lower_walks.specs.PlainFlow.{plain-Item}
use Rattle.rx_exits.specs.Moving.{moved_in_each}
use Rattle.rx_exits.proofs.MovingLemmas.{each_turn}
use Rattle.rx_exits.proofs.moving.+moving.Goals as goal

pub with_items-loop-item-preserved : goal.with_items-loop-item-preserved
with_items-loop-item-preserved t c =
    each_turn plain-Item c.args.items.now c.loop-item.item-index c.item-item.result c.loop-item.all c.in_ok-all.all c.args.found
    c.loop-item-test.true c.item-item.is c.in_ok-all.ensures c.loop-item.invariant

pub with_items-returns : goal.with_items-returns
with_items-returns t c = c.loop-item.invariant ∙ ap (λ l. c.args.found ++ moved_in_each (map plain-Item l)) (take_all c.loop-item.item-index c.args.items.now c.loop-item-test.false)

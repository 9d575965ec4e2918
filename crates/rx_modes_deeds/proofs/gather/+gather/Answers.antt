use Rattle.std.proofs.Common.{◌∙◌}
use Rattle.rx_lower_walks.specs.Flows.{last}
use Rattle.rx_lower_walks.specs.PlainFlow.{plain-Flow}
use Rattle.rx_modes_deeds.specs.Doings.{deeds_at}
use Rattle.rx_modes_deeds.proofs.Noting.{noted_turn}
use Rattle.rx_modes_deeds.proofs.gather.+gather.Goals as goal

pub gather_items-loop-item-preserved : goal.gather_items-loop-item-preserved
gather_items-loop-item-preserved t c =
    noted_turn (deeds_at c.loop-item.table.items) (deeds_at c.gather_item.new.table.items) c.args.items.now (last (plain-Flow c.args.last.now)) c.loop-item.item-index c.item-item.result
    c.loop-item-test.true c.item-item.is c.in_ok-gather_item.ensures ∙ c.loop-item.invariant

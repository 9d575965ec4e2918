-- What is left of the sequence is still to be noted; and the measures of the calls: the depth of the flow, and in one depth the rank of
-- the function.
use Rattle.std.proofs.Common.{◌≡◌, ◌+◌, ◌*◌, max, drop, map}
use denote.Param.Weighed.{most}
use Rattle.rx_lower_walks.specs.Walks.{actions_in}
use Rattle.rx_lower_walks.specs.Flows.{last, items_of, order_of_items}
use Rattle.rx_lower_walks.specs.PlainFlow.{plain-Flow, plain-Item}
use Rattle.rx_lower_walks.proofs.flow.Flow.TheLaws as flow
use Rattle.rx_lower_walks.proofs.flow.Item.TheLaws as item
use Rattle.rx_modes_deeds.specs.Doings.{all_noted, deeds_at}
use Rattle.rx_modes_deeds.proofs.gather.+gather.Given as goal

abbrev pub invariant-gather_items-loop-item : goal.invariant-gather_items-loop-item
invariant-gather_items-loop-item l =
    all_noted (deeds_at l.table.items) (actions_in (order_of_items (items_of (map plain-Item (drop l.item-index l.items)) (last (plain-Flow l.last)))))
    ≡ all_noted (deeds_at l.fn.table.items) (actions_in (order_of_items (items_of (map plain-Item l.fn.items) (last (plain-Flow l.fn.last)))))

abbrev pub decreases-gather : goal.decreases-gather
decreases-gather l = 3 * flow.the_size l.flow.now

abbrev pub decreases-gather_both : goal.decreases-gather_both
decreases-gather_both l = 3 * max (flow.the_size l.first.now) (flow.the_size l.second.now) + 1

abbrev pub decreases-gather_item : goal.decreases-gather_item
decreases-gather_item l = 3 * item.the_size l.item.now

abbrev pub decreases-gather_items : goal.decreases-gather_items
decreases-gather_items l = 3 * max (most item.the_size l.items.now) (flow.the_size l.last.now) + 1

use Rattle.std.proofs.Common.{◌≡◌, ◌++◌, ◌-◌, ◌+◌, ◌*◌, max, length, take, drop, map}
use denote.Param.Weighed.{most}
use Rattle.rx_lower_walks.specs.Flows.{last, items_of}
use Rattle.rx_lower_walks.specs.PlainFlow.{plain-Flow, plain-Item}
use Rattle.rx_lower_walks.proofs.flow.Flow.TheLaws as flow
use Rattle.rx_lower_walks.proofs.flow.Item.TheLaws as item
use Rattle.rx_lower_walks.specs.Sums.{sum_items, opened, no_items}
use Rattle.rx_lower_walks.specs.Rows.{items_rows}
use Rattle.rx_lower_walks.proofs.measure.+measure.Given as goal

abbrev pub invariant-measure_items-loop-turn : goal.invariant-measure_items-loop-turn
invariant-measure_items-loop-turn l = record {
  around : l.around ≡ opened (items_of (map plain-Item (take (length l.items - l.turn) l.items)) no_items) l.fn.around;
  sum : l.sum ≡ sum_items l.around (items_of (map plain-Item (drop (length l.items - l.turn) l.items)) (last (plain-Flow l.last)));
  rows : l.rows ≡ l.fn.rows ++ items_rows l.around (items_of (map plain-Item (drop (length l.items - l.turn) l.items)) (last (plain-Flow l.last)));
}

-- by the depth of the flow, and in one depth by the rank of the function
abbrev pub decreases-measure : goal.decreases-measure
decreases-measure l = 4 * flow.the_size l.flow.now

abbrev pub decreases-measure_or : goal.decreases-measure_or
decreases-measure_or l = 4 * max (flow.the_size l.first.now) (flow.the_size l.second.now) + 1

abbrev pub decreases-measure_passes : goal.decreases-measure_passes
decreases-measure_passes l = 4 * flow.the_size l.body.now + 1

abbrev pub decreases-measure_item : goal.decreases-measure_item
decreases-measure_item l = 4 * item.the_size l.item.now

abbrev pub decreases-measure_items : goal.decreases-measure_items
decreases-measure_items l = 4 * max (most item.the_size l.items.now) (flow.the_size l.last.now) + 1

-- The variables so far are those that the items so far move; and the measures of the calls.
use Rattle.std.proofs.Common.{◌≡◌, ◌+◌, ◌*◌, ◌++◌, max, take, map}
use denote.Param.Weighed.{most}
use Rattle.rx_lower_walks.specs.PlainFlow.{plain-Item}
use Rattle.rx_lower_walks.proofs.flow.Flow.TheLaws as flow
use Rattle.rx_lower_walks.proofs.flow.Item.TheLaws as item
use Rattle.rx_exits.specs.Moving.{moved_in_each}
use Rattle.rx_exits.proofs.moving.+moving.Given as goal

abbrev pub invariant-with_items-loop-item : goal.invariant-with_items-loop-item
invariant-with_items-loop-item l = l.all ≡ l.fn.found ++ moved_in_each (map plain-Item (take l.item-index l.items))

-- by the depth of the flow, and in one depth by the rank of the function
abbrev pub decreases-with_flow : goal.decreases-with_flow
decreases-with_flow l = 3 * flow.the_size l.flow.now

abbrev pub decreases-with_sequence : goal.decreases-with_sequence
decreases-with_sequence l = 3 * max (most item.the_size l.items.now) (flow.the_size l.last.now) + 2

abbrev pub decreases-with_items : goal.decreases-with_items
decreases-with_items l = 3 * most item.the_size l.items.now + 1

abbrev pub decreases-with_item : goal.decreases-with_item
decreases-with_item l = 3 * item.the_size l.item.now

use Rattle.std.proofs.Common.{◌+◌, ◌*◌, max}
use denote.Param.Weighed.{most}
use Rattle.rx_lower_walks.proofs.flow.Flow.TheLaws as flow
use Rattle.rx_lower_walks.proofs.flow.Item.TheLaws as item
use Rattle.rx_tests_passes.proofs.sites.walks.+walks.Given as goal

-- by the depth of the flow, and in one depth by the rank of the function
abbrev pub decreases-walks : goal.decreases-walks
decreases-walks l = 4 * flow.the_size l.flow.now

abbrev pub decreases-or_walks : goal.decreases-or_walks
decreases-or_walks l = 4 * max (flow.the_size l.one.now) (flow.the_size l.other.now) + 1

abbrev pub decreases-passes_walks : goal.decreases-passes_walks
decreases-passes_walks l = 4 * flow.the_size l.body.now + 1

abbrev pub decreases-item_walks : goal.decreases-item_walks
decreases-item_walks l = 4 * item.the_size l.item.now

abbrev pub decreases-items_walks : goal.decreases-items_walks
decreases-items_walks l = 4 * max (most item.the_size l.items.now) (flow.the_size l.last.now) + 1

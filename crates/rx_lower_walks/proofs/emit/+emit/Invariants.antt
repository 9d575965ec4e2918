-- What is emitted and what is left of the sequence are the whole; and the measures of the calls.
use Rattle.std.proofs.Common.{◌≡◌, ◌++◌, ◌+◌, ◌*◌, max, drop, map}
use denote.Param.Weighed.{most}
use Rattle.rx_lower_walks.specs.Flows.{last, items_of}
use Rattle.rx_lower_walks.specs.PlainFlow.{plain-Flow, plain-Item}
use Rattle.rx_lower_walks.proofs.flow.Flow.TheLaws as flow
use Rattle.rx_lower_walks.proofs.flow.Item.TheLaws as item
use Rattle.rx_lower_walks.specs.PlainSite.{plain-Site}
use Rattle.rx_lower_walks.specs.Rows.{items_rows}
use Rattle.rx_lower_walks.specs.Emitted.{emitted_items, with_open, left_over}
use Rattle.rx_lower_walks.proofs.emit.+emit.Given as goal

abbrev pub invariant-emit_items-loop-item : goal.invariant-emit_items-loop-item
invariant-emit_items-loop-item l = record {
  sites : map plain-Site l.out ++ left_over l.around (items_of (map plain-Item (drop l.item-index l.items)) (last (plain-Flow l.last))) l.stand
      ≡ map plain-Site l.fn.out ++ emitted_items l.fn.around (items_of (map plain-Item l.items) (last (plain-Flow l.last))) l.at l.on l.fails;
  rows : l.left ≡ items_rows l.around (items_of (map plain-Item (drop l.item-index l.items)) (last (plain-Flow l.last)));
  around : l.around ≡ with_open l.stand.opens l.fn.around;
}

-- by the depth of the flow, and in one depth by the rank of the function
abbrev pub decreases-emit : goal.decreases-emit
decreases-emit l = 4 * flow.the_size l.flow.now

abbrev pub decreases-emit_or : goal.decreases-emit_or
decreases-emit_or l = 4 * max (flow.the_size l.first.now) (flow.the_size l.second.now) + 1

abbrev pub decreases-emit_passes : goal.decreases-emit_passes
decreases-emit_passes l = 4 * flow.the_size l.body.now + 1

abbrev pub decreases-emit_do : goal.decreases-emit_do
decreases-emit_do l = 4 * flow.the_size l.flow.now + 1

abbrev pub decreases-emit_else : goal.decreases-emit_else
decreases-emit_else l = 4 * flow.the_size l.flow.now + 1

abbrev pub decreases-emit_item : goal.decreases-emit_item
decreases-emit_item l = 4 * item.the_size l.item.now

abbrev pub decreases-emit_items : goal.decreases-emit_items
decreases-emit_items l = 4 * max (most item.the_size l.items.now) (flow.the_size l.last.now) + 2

-- What is noted, the loops that are broken, and what is left of the sequence; and the measures of the calls.
use Rattle.std.proofs.Common.{◌≡◌, ◌+◌, ◌*◌, ◌++◌, max, drop, map}
use denote.Param.Weighed.{most}
use Rattle.rx_lower_walks.specs.Flows.{last, items_of}
use Rattle.rx_lower_walks.specs.PlainFlow.{plain-Flow, plain-Item}
use Rattle.rx_lower_walks.proofs.flow.Flow.TheLaws as flow
use Rattle.rx_lower_walks.proofs.flow.Item.TheLaws as item
use Rattle.rx_lower_lifetimes.specs.Held.{all_noted, held_items}
use Rattle.rx_lower_lifetimes.specs.Leads.{leads_items, broken_items, finished}
use Rattle.rx_lower_lifetimes.specs.PlainOf.{plain-Notes, known}
use Rattle.rx_lower_lifetimes.proofs.gather.+gather.Given as goal

abbrev pub invariant-gather_items-loop-item : goal.invariant-gather_items-loop-item
invariant-gather_items-loop-item l = record {
  leads : finished l.front (leads_items (items_of (map plain-Item (drop l.item-index l.items)) (last (plain-Flow l.last))))
      ≡ leads_items (items_of (map plain-Item l.fn.items) (last (plain-Flow l.fn.last)));
  notes : all_noted (known l.decls.items l.variables) (plain-Notes l.notes) (held_items (items_of (map plain-Item (drop l.item-index l.items)) (last (plain-Flow l.last))))
      ≡ all_noted (known l.fn.decls.items l.fn.variables) (plain-Notes l.fn.notes) (held_items (items_of (map plain-Item l.fn.items) (last (plain-Flow l.fn.last))));
  broken : l.broken ++ broken_items (items_of (map plain-Item (drop l.item-index l.items)) (last (plain-Flow l.last)))
      ≡ l.fn.broken ++ broken_items (items_of (map plain-Item l.fn.items) (last (plain-Flow l.fn.last)));
}

-- by the depth of the flow, and in one depth by the rank of the function
abbrev pub decreases-gather : goal.decreases-gather
decreases-gather l = 3 * flow.the_size l.flow.now

abbrev pub decreases-gather_both : goal.decreases-gather_both
decreases-gather_both l = 3 * max (flow.the_size l.first.now) (flow.the_size l.second.now) + 1

abbrev pub decreases-gather_passes : goal.decreases-gather_passes
decreases-gather_passes l = 3 * flow.the_size l.body.now + 1

abbrev pub decreases-gather_item : goal.decreases-gather_item
decreases-gather_item l = 3 * item.the_size l.item.now

abbrev pub decreases-gather_items : goal.decreases-gather_items
decreases-gather_items l = 3 * max (most item.the_size l.items.now) (flow.the_size l.last.now) + 1

use Rattle.std.proofs.Common.{sym, ap, ◌∙◌, true, false}
use Rattle.rx_lower_walks.specs.Flows.{last}
use Rattle.rx_lower_walks.specs.PlainFlow.{plain-Flow, plain-Item}
use Rattle.rx_lower_lifetimes.specs.Leads.{finished}
use Rattle.rx_lower_lifetimes.specs.PlainOf.{plain-Notes, known}
use Rattle.rx_lower_lifetimes.proofs.Noting.{notes_turn}
use Rattle.rx_lower_lifetimes.proofs.Leading.{item_reached, leads_turn, broken_turn}
use Rattle.rx_lower_lifetimes.proofs.gather.+gather.Goals as goal

pub gather_items-loop-item-preserved : goal.gather_items-loop-item-preserved
gather_items-loop-item-preserved t c =
    let goes = sym c.in_ok-gather_item.ensures.goes ∙ c.if-not-branch.false in
    record {
      leads = leads_turn c.loop-item.front c.gather_item.new.front c.args.items.now (last (plain-Flow c.args.last.now)) c.loop-item.item-index c.item-item.result
          c.loop-item-test.true c.item-item.is true goes c.in_ok-gather_item.ensures.front ∙ c.loop-item.invariant.leads;
      notes = notes_turn (known c.args.decls.now.items c.args.variables.now) (plain-Notes c.loop-item.notes) (plain-Notes c.gather_item.new.notes) c.args.items.now (last (plain-Flow c.args.last.now))
          c.loop-item.item-index c.item-item.result c.loop-item-test.true c.item-item.is true (sym (item_reached (plain-Item c.item-item.result)) ∙ goes) c.in_ok-gather_item.ensures.notes
          ∙ c.loop-item.invariant.notes;
      broken = broken_turn c.loop-item.broken c.gather_item.new.broken c.args.items.now (last (plain-Flow c.args.last.now)) c.loop-item.item-index c.item-item.result
          c.loop-item-test.true c.item-item.is true goes c.in_ok-gather_item.ensures.broken ∙ c.loop-item.invariant.broken;
    }

-- what follows the item is not reached
pub gather_items-returns-then-not-branch-clause-leads : goal.gather_items-returns-then-not-branch-clause-leads
gather_items-returns-then-not-branch-clause-leads t c =
    c.finished.ensures ∙ ap (finished c.gather_item.new.front) c.stops.ensures
    ∙ leads_turn c.loop-item.front c.gather_item.new.front c.args.items.now (last (plain-Flow c.args.last.now)) c.loop-item.item-index c.item-item.result
    c.loop-item-test.true c.item-item.is false (sym c.in_ok-gather_item.ensures.goes ∙ c.if-not-branch.true) c.in_ok-gather_item.ensures.front
    ∙ c.loop-item.invariant.leads

pub gather_items-returns-then-not-branch-clause-notes : goal.gather_items-returns-then-not-branch-clause-notes
gather_items-returns-then-not-branch-clause-notes t c =
    notes_turn (known c.args.decls.now.items c.args.variables.now) (plain-Notes c.loop-item.notes) (plain-Notes c.gather_item.new.notes) c.args.items.now (last (plain-Flow c.args.last.now))
    c.loop-item.item-index c.item-item.result c.loop-item-test.true c.item-item.is
    false (sym (item_reached (plain-Item c.item-item.result)) ∙ sym c.in_ok-gather_item.ensures.goes ∙ c.if-not-branch.true) c.in_ok-gather_item.ensures.notes
    ∙ c.loop-item.invariant.notes

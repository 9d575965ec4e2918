use Rattle.std.proofs.Common.{◌≡◌, ◌≤◌, ◌+◌, [], true, false, drop, get_or, map, refl, sym, ap, ◌∙◌, arith}
use Rattle.std.proofs.lemmas.Result.{on_ok_weaker}
use denote.Param.Weighed.{most, at_most}
use Rattle.rx_lower_walks.specs.Flows as flows
use Rattle.rx_lower_walks.specs.PlainFlow.{plain-Flow, plain-Item, flow_nothing, flow_nowhere, flow_items, flow_or, flow_passes, item_do, item_ends, item_may, item_else}
use Rattle.rx_lower_walks.proofs.flow.Flow.TheLaws as flow
use Rattle.rx_lower_walks.proofs.flow.Item.TheLaws as item
use Rattle.rx_lower_walks.specs.PlainSite.{plain-Site}
use Rattle.rx_lower_walks.specs.Around.{with_loop}
use Rattle.rx_lower_walks.specs.Sums.{nowhere_sum, sum}
use Rattle.rx_lower_walks.specs.Rows.{row, flow_rows, items_rows, past, own_rows, item_row}
use Rattle.rx_lower_walks.proofs.Alike.{rows_inside}
use Rattle.rx_lower_walks.proofs.Depths.{items_deeper, or_deeper, passes_deeper, do_deeper, else_deeper}
use Rattle.rx_lower_walks.proofs.Rows.{items_split, item_next}
use Rattle.rx_lower_walks.proofs.Emitting.{doing_sites, trying_sites, ending_sites, ending_around, may_sites, past_same, item_step, passes_step, rows_given, silent}
use Rattle.rx_lower_walks.proofs.emit.+emit.Goals as goal

pub emit-returns-in-Nothing-clause-sites : goal.emit-returns-in-Nothing-clause-sites
emit-returns-in-Nothing-clause-sites t c = silent _ c.args.around.now (plain-Flow c.args.flow.now) flows.nothing c.args.at c.args.on.now c.args.fails.now (ap plain-Flow c.in-Nothing.is ∙ flow_nothing) refl

pub emit-returns-in-Nowhere-clause-sites : goal.emit-returns-in-Nowhere-clause-sites
emit-returns-in-Nowhere-clause-sites t c = silent _ c.args.around.now (plain-Flow c.args.flow.now) flows.nowhere c.args.at c.args.on.now c.args.fails.now (ap plain-Flow c.in-Nowhere.is ∙ flow_nowhere) refl

pub emit_item-returns-in_ok-emit_do-in-Do-clause-sites : goal.emit_item-returns-in_ok-emit_do-in-Do-clause-sites
emit_item-returns-in_ok-emit_do-in-Do-clause-sites t c =
    doing_sites c.args.around.now c.emit_do.new.around (plain-Item c.args.item.now) c.args.row.now c.args.stand.now c.emit_do.new.stand (map plain-Site c.args.out.now) (map plain-Site c.emit_do.new.out)
    (plain-Flow c.in-Do.flow) (ap plain-Item c.in-Do.is ∙ item_do c.in-Do.flow) c.in_ok-emit_do-in-Do.ensures.sites c.in_ok-emit_do-in-Do.ensures.stand c.in_ok-emit_do-in-Do.ensures.around

pub emit_item-returns-in_ok-begin_end-in-Ends-clause-sites : goal.emit_item-returns-in_ok-begin_end-in-Ends-clause-sites
emit_item-returns-in_ok-begin_end-in-Ends-clause-sites t c =
    ending_sites c.args.around.now c.begin_end.new.around (plain-Item c.args.item.now) c.args.row.now c.args.stand.now c.begin_end.new.stand (map plain-Site c.args.out.now)
    c.in-Ends.node c.in-Ends.variable (ap plain-Item c.in-Ends.is ∙ item_ends c.in-Ends.node c.in-Ends.variable) c.in_ok-begin_end-in-Ends.ensures.stand c.in_ok-begin_end-in-Ends.ensures.around

pub emit_item-returns-in_ok-begin_end-in-Ends-clause-around : goal.emit_item-returns-in_ok-begin_end-in-Ends-clause-around
emit_item-returns-in_ok-begin_end-in-Ends-clause-around t c =
    ending_around c.in-Ends.variable c.in-Ends.node c.args.row.now.rest.ahead _ c.args.stand.now.opens c.begin_end.new.stand.opens c.args.around.now c.begin_end.new.around
    (ap (λ s. s.opens) c.in_ok-begin_end-in-Ends.ensures.stand) c.in_ok-begin_end-in-Ends.ensures.around

pub emit_item-returns-in-May-clause-sites : goal.emit_item-returns-in-May-clause-sites
emit_item-returns-in-May-clause-sites t c =
    may_sites c.args.around.now (plain-Item c.args.item.now) c.args.row.now c.args.stand.now (map plain-Site c.args.out.now) (ap plain-Item c.in-May.is ∙ item_may)

pub emit_item-returns-in_ok-emit_else-in-Else-clause-sites : goal.emit_item-returns-in_ok-emit_else-in-Else-clause-sites
emit_item-returns-in_ok-emit_else-in-Else-clause-sites t c =
    trying_sites c.args.around.now c.emit_else.new.around (plain-Item c.args.item.now) c.args.row.now c.args.stand.now c.emit_else.new.stand (map plain-Site c.args.out.now) (map plain-Site c.emit_else.new.out)
    (plain-Flow c.in-Else.flow) (ap plain-Item c.in-Else.is ∙ item_else c.in-Else.flow) c.in_ok-emit_else-in-Else.ensures.sites c.in_ok-emit_else-in-Else.ensures.stand c.in_ok-emit_else-in-Else.ensures.around

pub emit-emit_items-requires : goal.emit-emit_items-requires
emit-emit_items-requires t c =
    let deeper = items_deeper c.args.flow.now c.in-Items.items c.in-Items.last c.in-Items.is in
    let same : most item.the_size c.as_slice.result.now ≡ most item.the_size c.in-Items.items = ap (most item.the_size) c.as_slice.ensures in
    let end : flow.the_size c.get.result.now ≡ flow.the_size c.in-Items.last = ap flow.the_size c.get.ensures in
    let bound = c.decreases in (
      omega (arith, deeper, same, end, bound),
      rows_given c.args.around.now (plain-Flow c.args.flow.now)
          (flows.items (flows.items_of (map plain-Item c.as_slice.result.now) (flows.last (plain-Flow c.get.result.now)))) c.args.rows.now
          (ap plain-Flow c.in-Items.is ∙ flow_items c.in-Items.items c.in-Items.last
          ∙ ap (λ l. flows.items (flows.items_of (map plain-Item l) (flows.last (plain-Flow c.in-Items.last)))) (sym c.as_slice.ensures)
          ∙ ap (λ f. flows.items (flows.items_of (map plain-Item c.as_slice.result.now) (flows.last (plain-Flow f)))) (sym c.get.ensures)) c.requires,
    )

pub emit-emit_or-requires : goal.emit-emit_or-requires
emit-emit_or-requires t c =
    let deeper = or_deeper c.args.flow.now c.in-Or.first c.in-Or.second c.in-Or.is in
    let one : flow.the_size c.get-in-Or.result.now ≡ flow.the_size c.in-Or.first = ap flow.the_size c.get-in-Or.ensures in
    let other : flow.the_size c.get-in-Or-2.result.now ≡ flow.the_size c.in-Or.second = ap flow.the_size c.get-in-Or-2.ensures in
    let bound = c.decreases in (
      omega (arith, deeper, one, other, bound),
      rows_given c.args.around.now (plain-Flow c.args.flow.now)
          (flows.or (plain-Flow c.get-in-Or.result.now) (plain-Flow c.get-in-Or-2.result.now)) c.args.rows.now
          (ap plain-Flow c.in-Or.is ∙ flow_or c.in-Or.first c.in-Or.second ∙ ap (λ f. flows.or (plain-Flow f) (plain-Flow c.in-Or.second)) (sym c.get-in-Or.ensures)
          ∙ ap (λ f. flows.or (plain-Flow c.get-in-Or.result.now) (plain-Flow f)) (sym c.get-in-Or-2.ensures)) c.requires,
    )

pub emit-emit_passes-requires : goal.emit-emit_passes-requires
emit-emit_passes-requires t c =
    let deeper = passes_deeper c.args.flow.now c.in-Passes.number c.in-Passes.body c.in-Passes.is in
    let same : flow.the_size c.get-in-Passes.result.now ≡ flow.the_size c.in-Passes.body = ap flow.the_size c.get-in-Passes.ensures in
    let bound = c.decreases in (
      omega (arith, deeper, same, bound),
      rows_given c.args.around.now (plain-Flow c.args.flow.now)
          (flows.passes c.in-Passes.number (plain-Flow c.get-in-Passes.result.now)) c.args.rows.now
          (ap plain-Flow c.in-Passes.is ∙ flow_passes c.in-Passes.number c.in-Passes.body ∙ ap (λ f. flows.passes c.in-Passes.number (plain-Flow f)) (sym c.get-in-Passes.ensures)) c.requires,
    )

pub emit_item-emit_do-requires : goal.emit_item-emit_do-requires
emit_item-emit_do-requires t c =
    let deeper = do_deeper c.args.item.now c.in-Do.flow c.in-Do.is in
    let bound = c.decreases in
    (omega (arith, deeper, bound), c.requires ∙ ap (own_rows c.args.around.now) (ap plain-Item c.in-Do.is ∙ item_do c.in-Do.flow))

pub emit_item-emit_else-requires : goal.emit_item-emit_else-requires
emit_item-emit_else-requires t c =
    let deeper = else_deeper c.args.item.now c.in-Else.flow c.in-Else.is in
    let bound = c.decreases in
    (omega (arith, deeper, bound), c.requires ∙ ap (own_rows c.args.around.now) (ap plain-Item c.in-Else.is ∙ item_else c.in-Else.flow))

pub emit_item-returns-in_ok-emit_do-in-Do-clause-past : goal.emit_item-returns-in_ok-emit_do-in-Do-clause-past
emit_item-returns-in_ok-emit_do-in-Do-clause-past t c = past_same c.args.around.now c.emit_do.new.around (plain-Item c.args.item.now) (flows.doing (plain-Flow c.in-Do.flow))
    (ap plain-Item c.in-Do.is ∙ item_do c.in-Do.flow) c.in_ok-emit_do-in-Do.ensures.around

pub emit_item-returns-in_ok-begin_end-in-Ends-clause-past : goal.emit_item-returns-in_ok-begin_end-in-Ends-clause-past
emit_item-returns-in_ok-begin_end-in-Ends-clause-past t c = past_same c.args.around.now c.begin_end.new.around (plain-Item c.args.item.now) (flows.ending c.in-Ends.node c.in-Ends.variable)
    (ap plain-Item c.in-Ends.is ∙ item_ends c.in-Ends.node c.in-Ends.variable) c.in_ok-begin_end-in-Ends.ensures.around

pub emit_item-returns-in-May-clause-past : goal.emit_item-returns-in-May-clause-past
emit_item-returns-in-May-clause-past t c = past_same c.args.around.now c.args.around.now (plain-Item c.args.item.now) flows.may (ap plain-Item c.in-May.is ∙ item_may) refl

pub emit_item-returns-in_ok-emit_else-in-Else-clause-past : goal.emit_item-returns-in_ok-emit_else-in-Else-clause-past
emit_item-returns-in_ok-emit_else-in-Else-clause-past t c = past_same c.args.around.now c.emit_else.new.around (plain-Item c.args.item.now) (flows.trying (plain-Flow c.in-Else.flow))
    (ap plain-Item c.in-Else.is ∙ item_else c.in-Else.flow) c.in_ok-emit_else-in-Else.ensures.around

pub emit_items-emit_item-requires : goal.emit_items-emit_item-requires
emit_items-emit_item-requires t c =
    let n = plain-Item c.item-item.result in
    let l = flows.items_of (map plain-Item (drop (c.loop-item.item-index + 1) c.args.items.now)) (flows.last (plain-Flow c.args.last.now)) in
    let parts = items_split c.args.items.now c.loop-item.item-index c.item-item.result (flows.last (plain-Flow c.args.last.now)) c.loop-item.around c.loop-item.left.now c.loop-item-test.true c.item-item.is c.loop-item.invariant.rows in
    let same : item.the_size c.item-item.result ≡ item.the_size (get_or c.args.items.now c.loop-item.item-index c.item-item.result) = ap item.the_size c.item-item.is in
    let within : item.the_size (get_or c.args.items.now c.loop-item.item-index c.item-item.result) ≤ most item.the_size c.args.items.now
    = at_most item.the_size c.args.items.now c.loop-item.item-index c.item-item.result c.loop-item-test.true in
    let bound = c.decreases in
    (omega (arith, same, within, bound), (c.split.ensures (items_rows (past n c.loop-item.around) l) (own_rows c.loop-item.around n) (item_row c.loop-item.around n l) parts refl).2)

pub emit_items-returns-then-not-branch-clause-sites : goal.emit_items-returns-then-not-branch-clause-sites
emit_items-returns-then-not-branch-clause-sites t c =
    let n = plain-Item c.item-item.result in
    let l = flows.items_of (map plain-Item (drop (c.loop-item.item-index + 1) c.args.items.now)) (flows.last (plain-Flow c.args.last.now)) in
    let parts = items_split c.args.items.now c.loop-item.item-index c.item-item.result (flows.last (plain-Flow c.args.last.now)) c.loop-item.around c.loop-item.left.now c.loop-item-test.true c.item-item.is c.loop-item.invariant.rows in
    let own = c.split.ensures (items_rows (past n c.loop-item.around) l) (own_rows c.loop-item.around n) (item_row c.loop-item.around n l) parts refl in
    on_ok_weaker c.close.result (λ h. h ∙ item_step _ (map plain-Site c.loop-item.out) (map plain-Site c.emit_item.new.out) c.loop-item.around c.emit_item.new.around _ l n c.loop-item.stand c.emit_item.new.stand
    c.in_ok-emit_item.field-0 false (item_next c.args.items.now c.loop-item.item-index c.item-item.result (flows.last (plain-Flow c.args.last.now)) c.loop-item-test.true c.item-item.is)
    c.loop-item.invariant.sites (c.in_ok-emit_item.ensures.sites l own.0) c.if-not-branch.true) c.close.ensures.sites

pub emit_items-loop-item-preserved : goal.emit_items-loop-item-preserved
emit_items-loop-item-preserved t c =
    let n = plain-Item c.item-item.result in
    let l = flows.items_of (map plain-Item (drop (c.loop-item.item-index + 1) c.args.items.now)) (flows.last (plain-Flow c.args.last.now)) in
    let parts = items_split c.args.items.now c.loop-item.item-index c.item-item.result (flows.last (plain-Flow c.args.last.now)) c.loop-item.around c.loop-item.left.now c.loop-item-test.true c.item-item.is c.loop-item.invariant.rows in
    let own = c.split.ensures (items_rows (past n c.loop-item.around) l) (own_rows c.loop-item.around n) (item_row c.loop-item.around n l) parts refl in
    record {
      sites = item_step _ (map plain-Site c.loop-item.out) (map plain-Site c.emit_item.new.out) c.loop-item.around c.emit_item.new.around _ l n c.loop-item.stand c.emit_item.new.stand
          c.in_ok-emit_item.field-0 true (item_next c.args.items.now c.loop-item.item-index c.item-item.result (flows.last (plain-Flow c.args.last.now)) c.loop-item-test.true c.item-item.is)
          c.loop-item.invariant.sites (c.in_ok-emit_item.ensures.sites l own.0) c.if-not-branch.false;
      rows = own.1 ∙ ap (λ D. items_rows D l) (sym c.in_ok-emit_item.ensures.past);
      around = c.in_ok-emit_item.ensures.around c.args.around.now c.loop-item.invariant.around;
    }

pub emit_passes-emit-requires : goal.emit_passes-emit-requires
emit_passes-emit-requires t c =
    let f = plain-Flow c.args.body.now in
    let inside = with_loop c.args.number [] [] c.args.around.now in
    let bound = c.decreases in (
      omega (arith, bound),
      (c.split.ensures [] (flow_rows inside f) (row (sum inside f) nowhere_sum []) c.requires refl).2
          ∙ rows_inside c.args.number c.args.on.now c.as_slice.result.now c.args.around.now f ∙ ap (λ D. flow_rows D f) (sym c.in_ok-enter.ensures),
    )

pub emit_passes-returns-clause-sites : goal.emit_passes-returns-clause-sites
emit_passes-returns-clause-sites t c =
    let f = plain-Flow c.args.body.now in
    let inside = with_loop c.args.number [] [] c.args.around.now in
    passes_step c.args.around.now c.enter.new.around c.args.number f c.args.at c.args.on.now c.args.fails.now c.in_ok-head.head c.as_slice.result.now c.as_slice-2.result.now c.as_slice-3.result.now
    c.split.result.0.now (map plain-Site c.args.out.now) (map plain-Site c.emit.new.out) (c.split.ensures [] (flow_rows inside f) (row (sum inside f) nowhere_sum []) c.requires refl).0
    c.in_ok-head.ensures c.as_slice.ensures c.as_slice-2.ensures (c.as_slice-3.ensures ∙ c.new-nothing.ensures) c.in_ok-enter.ensures c.in_ok-emit.ensures.sites

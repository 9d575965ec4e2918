use Rattle.std.proofs.Common.{◌≡◌, ◌++◌, sym, ap, ◌∙◌}
use Rattle.std.proofs.lemmas.Result.{on_ok_weaker}
use Rattle.rx_lower_walks.specs.Flows.{last}
use Rattle.rx_lower_walks.specs.PlainFlow.{plain-Flow, plain-Item, item_do, item_ends, item_may, item_else}
use Rattle.rx_lower_walks.specs.Sums.{sum_items}
use Rattle.rx_lower_walks.specs.Rows.{items_rows}
use Rattle.rx_lower_walks.proofs.Rows.{adds_do, adds_else, adds_ends, adds_may, row_around, row_next}
use Rattle.rx_lower_walks.proofs.measure.+measure.Goals as goal

pub measure_item-returns-in_ok-own-in-Do-clause-rows : goal.measure_item-returns-in_ok-own-in-Do-clause-rows
measure_item-returns-in_ok-own-in-Do-clause-rows t c = on_ok_weaker c.do_row.result
    (adds_do c.args.around.now (plain-Item c.args.item.now) c.args.rest c.args.behind c.args.rows.now c.do_row.new.rows (plain-Flow c.in-Do.flow) c.in_ok-own-in-Do.own c.measure.new.rows
    (ap plain-Item c.in-Do.is ∙ item_do c.in-Do.flow) c.in_ok-own-in-Do.ensures.sum c.in_ok-own-in-Do.ensures.rows) c.do_row.ensures.rows

pub measure_item-returns-in-Ends-clause-rows : goal.measure_item-returns-in-Ends-clause-rows
measure_item-returns-in-Ends-clause-rows t c = on_ok_weaker c.ends_row.result
    (adds_ends c.args.around.now (plain-Item c.args.item.now) c.args.rest c.args.behind c.args.rows.now c.ends_row.new.rows c.in-Ends.field-0 c.in-Ends.field-1
    (ap plain-Item c.in-Ends.is ∙ item_ends c.in-Ends.field-0 c.in-Ends.field-1)) c.ends_row.ensures.rows

pub measure_item-returns-in-May-clause-rows : goal.measure_item-returns-in-May-clause-rows
measure_item-returns-in-May-clause-rows t c = on_ok_weaker c.may_row.result
    (adds_may c.args.around.now (plain-Item c.args.item.now) c.args.rest c.args.behind c.args.rows.now c.may_row.new.rows (ap plain-Item c.in-May.is ∙ item_may)) c.may_row.ensures.rows

pub measure_item-returns-in_ok-own-in-Else-clause-rows : goal.measure_item-returns-in_ok-own-in-Else-clause-rows
measure_item-returns-in_ok-own-in-Else-clause-rows t c = on_ok_weaker c.else_row.result
    (adds_else c.args.around.now (plain-Item c.args.item.now) c.args.rest c.args.behind c.args.rows.now c.else_row.new.rows (plain-Flow c.in-Else.flow) c.in_ok-own-in-Else.own c.measure-in-Else.new.rows
    (ap plain-Item c.in-Else.is ∙ item_else c.in-Else.flow) c.in_ok-own-in-Else.ensures.sum c.in_ok-own-in-Else.ensures.rows) c.else_row.ensures.rows

pub measure_items-loop-turn-preserved : goal.measure_items-loop-turn-preserved
measure_items-loop-turn-preserved t c = record {
  around = row_around c.args.items.now (last (plain-Flow c.args.last.now)) c.loop-turn.turn c.index-items-items.result c.loop-turn-test.true c.index-items-items.is
      c.args.around.now c.loop-turn.around c.measure_item.new.around c.loop-turn.invariant.around c.in_ok-sum-2.ensures.around;
  sum = row_next c.args.items.now (last (plain-Flow c.args.last.now)) c.loop-turn.turn c.index-items-items.result c.loop-turn-test.true c.index-items-items.is
      c.args.around.now c.loop-turn.around c.measure_item.new.around (λ D l. c.loop-turn.sum ≡ sum_items D l) (λ D l. c.in_ok-sum-2.sum ≡ sum_items D l)
      c.loop-turn.invariant.around c.in_ok-sum-2.ensures.around c.loop-turn.invariant.sum c.in_ok-sum-2.ensures.sum;
  rows = row_next c.args.items.now (last (plain-Flow c.args.last.now)) c.loop-turn.turn c.index-items-items.result c.loop-turn-test.true c.index-items-items.is
      c.args.around.now c.loop-turn.around c.measure_item.new.around (λ D l. (c.loop-turn.sum ≡ sum_items D l) × (c.loop-turn.rows ≡ c.args.rows.now ++ items_rows D l))
      (λ D l. c.measure_item.new.rows ≡ c.args.rows.now ++ items_rows D l) c.loop-turn.invariant.around c.in_ok-sum-2.ensures.around
      (c.loop-turn.invariant.sum, c.loop-turn.invariant.rows)
      (λ D l b h. c.in_ok-sum-2.ensures.rows D l c.args.rows.now b h.0 (c.added-behind.ensures c.args.rows.now (items_rows c.loop-turn.around l) h.1 (sym c.len-under.ensures)) h.1);
}

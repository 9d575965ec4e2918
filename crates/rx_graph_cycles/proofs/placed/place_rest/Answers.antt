use Rattle.std.proofs.Common.{sym, ◌∙◌}
use Rattle.rx_graph_cycles.proofs.Placing.{fewer_at, placed_at, placed_in_order}
use Rattle.rx_graph_cycles.proofs.placed.place_rest.Goals as goal

pub loop-done-smaller : goal.loop-done-smaller
loop-done-smaller c =
    fewer_at c.args.edges.now _ _ _ _ _ c.loop-done.invariant c.requires.apart c.in_ok-numbers.ensures
    c.deref.ensures.value (sym c.full.ensures ∙ c.loop-done-test.true) c.in_ok-place_all.ensures.done

pub loop-done-preserved : goal.loop-done-preserved
loop-done-preserved c =
    placed_at c.args.edges.now _ _ _ _ c.deref.result.now c.loop-done.invariant
    c.in_ok-place_all.ensures.done c.in_ok-place_all.ensures.order

pub returns : goal.returns
returns c =
    placed_in_order c.args.edges.now c.loop-done.done c.loop-done.order.items c.loop-done.invariant
    (sym c.full.ensures ∙ c.loop-done-test.false)

use Rattle.std.proofs.Common.{◌∙◌}
use Rattle.rx_graph_cycles.proofs.Placing.{begins_at}
use Rattle.rx_graph_cycles.proofs.placed.in_order.Goals as goal

pub place_rest-requires-clause-placed : goal.place_rest-requires-clause-placed
place_rest-requires-clause-placed c =
    begins_at c.args.edges.now _ _ _ _ c.deref.result.now
    (c.as_mut_slice-done.ensures.value ∙ c.in_ok-marks.ensures) c.new-placed.ensures.items
    c.in_ok-place_all.ensures.done c.in_ok-place_all.ensures.order

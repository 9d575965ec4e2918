use Rattle.std.proofs.Common.{sym, ap, ◌∙◌}
use Rattle.rx_graph_cycles.specs.Marks.{full, settle_all}
use Rattle.rx_graph_cycles.proofs.Settling.{settled_apart}
use Rattle.rx_graph_cycles.proofs.settled.settled.Goals as goal

pub returns : goal.returns
returns c is =
    let none = c.as_mut_slice-done.ensures.value ∙ c.in_ok-marks.ensures in
    let begun = ap (λ done. full (settle_all c.args.edges.now done c.args.order.now)) (sym none) in
    let ended = ap full (sym c.settle_all.ensures) ∙ sym c.full.ensures in
    settled_apart c.args.edges.now c.args.order.now (begun ∙ ended ∙ is)

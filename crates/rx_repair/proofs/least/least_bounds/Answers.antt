-- By the lifetimes and sites of its graph, and what its fields ask.
use Rattle.rx_repair.proofs.Alike.{needs_by}
use Rattle.rx_repair.proofs.Bounds.{lacks_told}
use Rattle.rx_repair.proofs.least.least_bounds.Goals as goal

pub returns-clause-lacks : goal.returns-clause-lacks
returns-clause-lacks c = λ f there.
    lacks_told c.typed-typed.result.now c.args.front.now.typed c.typed-typed.ensures.same f c.graph-graph.result.now c.as_slice.result.now c.live.result.now
    c.in_ok-implied.implied.items c.in_ok-pairs.pairs (c.graph-graph.ensures.graph f there) c.as_slice.ensures (c.live.ensures.live f there)
    c.in_ok-implied.ensures c.in_ok-pairs.ensures

pub returns-clause-needs : goal.returns-clause-needs
returns-clause-needs c = λ f there.
    needs_by c.least_bounds_are_missing.ensures.missing c.args.front.now.typed.decls.items f c.in_ok-pairs.pairs
    (lacks_told c.typed-typed.result.now c.args.front.now.typed c.typed-typed.ensures.same f c.graph-graph.result.now c.as_slice.result.now c.live.result.now
    c.in_ok-implied.implied.items c.in_ok-pairs.pairs (c.graph-graph.ensures.graph f there) c.as_slice.ensures (c.live.ensures.live f there)
    c.in_ok-implied.ensures c.in_ok-pairs.ensures)

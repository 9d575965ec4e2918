use Rattle.rx_typeck_solver.proofs.Ending.{asked_read}
use Rattle.rx_typeck_solver.proofs.solver.span_at.Goals as goal

pub returns-then-demand-node : goal.returns-then-demand-node
returns-then-demand-node c = asked_read c.as_slice-demand-items.result.now c.args.demands.now c.loop-demand.demand-index c.demand-item.result c.args.node c.as_slice-demand-items.ensures c.loop-demand-test.true c.demand-item.is c.if-demand-node.true

use Rattle.rx_typeck_solver.specs.Tabled.{state_of}
use Rattle.rx_typeck_solver.specs.Stepping.{known}
use Rattle.rx_typeck_solver.proofs.ListReads.{drop_item}
use Rattle.rx_typeck_solver.proofs.Lacking.{first_demand_reads}
use Rattle.rx_typeck_solver.proofs.demands.take_demands.Goals as goal

pub take_all-requires-clause-reads : goal.take_all-requires-clause-reads
take_all-requires-clause-reads c = first_demand_reads (known c.args.items.now c.args.sizes.now) _ _ _ (state_of c.loop-demand.arena.entries.items c.loop-demand.tables) _ (drop_item c.as_slice-demand-items.result.now c.args.demands.now c.loop-demand.demand-index c.demand-item.result c.as_slice-demand-items.ensures c.loop-demand-test.true c.demand-item.is) c.loop-demand.invariant.2 c.requires.reads

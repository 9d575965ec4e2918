use Rattle.rx_typeck_solver.specs.Tabled.{state_of}
use Rattle.rx_typeck_solver.specs.Stepping.{known}
use Rattle.rx_typeck_solver.proofs.ListReads.{drop_item}
use Rattle.rx_typeck_solver.proofs.Lacking.{first_fact_reads}
use Rattle.rx_typeck_solver.proofs.take.take_all.Goals as goal

pub take-requires-clause-reads : goal.take-requires-clause-reads
take-requires-clause-reads c = first_fact_reads (known c.args.items.now c.args.sizes.now) _ _ _ (state_of c.loop-fact.arena.entries.items c.loop-fact.tables) _ (drop_item c.as_slice-fact-items.result.now c.args.facts.now c.loop-fact.fact-index c.fact-item.result c.as_slice-fact-items.ensures c.loop-fact-test.true c.fact-item.is) c.loop-fact.invariant.2 c.requires.reads

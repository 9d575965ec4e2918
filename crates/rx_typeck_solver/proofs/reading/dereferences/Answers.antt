use Rattle.std.proofs.Common.{subst, sym}
use Rattle.std.specs.Prelude.{IsSome}
use Rattle.rx_typeck_solver.specs.Tabled.{table_of}
use Rattle.rx_typeck_solver.proofs.Lacking.{passing_known, entry_known, is_not_none}
use Rattle.rx_typeck_solver.proofs.States.{read_term}
use Rattle.rx_typeck_solver.proofs.ListReads.{drop_read, drop_end, passed_turn, passed_end}
use Rattle.rx_typeck_solver.proofs.reading.dereferences.Goals as goal

pub gone-requires-clause-term : goal.gone-requires-clause-term
gone-requires-clause-term c = read_term c.args.arena.now.entries.items c.args.tables.now _ c.shape.result c.in-Some.entry c.requires.fits c.shape.ensures c.in-Some.is

pub loop-passing-preserved : goal.loop-passing-preserved
loop-passing-preserved c = passed_turn c.args.arena.now.entries.items c.args.tables.now c.args.at.now c.loop-passing.passing-index _ c.in-Some.entry c.shape.result c.gone.result c.loop-passing.sum c.both-sum.result (drop_read c.as_slice-passing-items.result.now c.args.at.now c.loop-passing.passing-index _ c.as_slice-passing-items.ensures c.loop-passing-test.true) c.shape.ensures c.in-Some.is c.gone.ensures c.both-sum.ensures c.loop-passing.invariant

pub returns : goal.returns
returns c = passed_end c.args.arena.now.entries.items c.args.tables.now c.args.at.now c.loop-passing.passing-index c.loop-passing.sum (drop_end c.as_slice-passing-items.result.now c.args.at.now c.loop-passing.passing-index c.as_slice-passing-items.ensures c.loop-passing-test.false) c.loop-passing.invariant

pub unreachable-requires : goal.unreachable-requires
unreachable-requires c = is_not_none c.shape.result c.in-None.is (subst (λ o. IsSome o) (sym c.shape.ensures) (entry_known c.args.arena.now.entries.items c.args.tables.now _ (passing_known (table_of c.args.arena.now.entries.items c.args.tables.now) c.as_slice-passing-items.result.now c.args.at.now c.loop-passing.passing-index _ c.as_slice-passing-items.ensures c.loop-passing-test.true c.requires.known)))

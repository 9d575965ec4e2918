use Rattle.std.proofs.Common.{subst, sym}
use Rattle.std.specs.Prelude.{IsSome}
use Rattle.rx_typeck_solver.proofs.Lacking.{entry_known, is_not_none}
use Rattle.rx_typeck_solver.specs.declared.facts.Subject.TheVariants as subject
use Rattle.rx_typeck_solver.specs.Tabled.{table_of}
use Rattle.rx_typeck_solver.proofs.States.{read_term, behind_known, restated, refits}
use Rattle.rx_typeck_solver.proofs.tables.integer_behind.Goals as goal

pub peeled-under-requires-clause-term : goal.peeled-under-requires-clause-term
peeled-under-requires-clause-term c = read_term c.args.arena.now.entries.items c.args.tables.now (subject.Node c.args.node) c.shape.result c.in-Some.known c.requires.fits c.shape.ensures c.in-Some.is

pub returns-clause-step : goal.returns-clause-step
returns-clause-step c = behind_known c.args.arena.now.entries.items c.args.tables.now c.args.node c.in-Some.known c.peeled-under.result c.args.kinds c.shape.result _ c.shape.ensures c.in-Some.is c.peeled-under.ensures.value
    (restated c.args.arena.now.entries.items c.args.tables.now c.integer_in.new.classes _ c.integer_in.result (c.integer_in.ensures.step (table_of c.args.arena.now.entries.items c.args.tables.now)))

pub returns-clause-fits : goal.returns-clause-fits
returns-clause-fits c = refits c.args.arena.now.entries.items c.args.tables.now c.integer_in.new.classes c.requires.fits c.integer_in.ensures.classed c.integer_in.ensures.as_many

pub unreachable-requires : goal.unreachable-requires
unreachable-requires c = is_not_none c.shape.result c.in-None.is (subst (λ o. IsSome o) (sym c.shape.ensures) (entry_known c.args.arena.now.entries.items c.args.tables.now (subject.Node c.args.node) c.requires.known))

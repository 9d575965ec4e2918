use Rattle.rx_typeck_solver.specs.declared.facts.Subject.TheVariants as subject
use Rattle.rx_typeck_solver.specs.Tabled.{table_of}
use Rattle.std.proofs.lemmas.Result.{IfOk-weaker}
use Rattle.rx_typeck_solver.proofs.States.{read_term, integer_known, integer_new, restated, refits}
use Rattle.rx_typeck_solver.proofs.tables.integer.Goals as goal

pub integer_in-requires-clause-term : goal.integer_in-requires-clause-term
integer_in-requires-clause-term c = read_term c.args.arena.now.entries.items c.args.tables.now (subject.Node c.args.node) c.shape.result c.in-Some.known c.requires.fits c.shape.ensures c.in-Some.is

pub returns-in-None-clause-step : goal.returns-in-None-clause-step
returns-in-None-clause-step c = IfOk-weaker c.fresh.result _ _ (λ goes h. integer_new c.args.arena.now.entries.items c.args.tables.now c.args.node c.args.kinds c.shape.result _ c.shape.ensures c.in-None.is h) c.fresh.ensures.step

pub returns-in-Some-clause-step : goal.returns-in-Some-clause-step
returns-in-Some-clause-step c = integer_known c.args.arena.now.entries.items c.args.tables.now c.args.node c.in-Some.known c.args.kinds c.shape.result _ c.shape.ensures c.in-Some.is
    (restated c.args.arena.now.entries.items c.args.tables.now c.integer_in.new.classes _ c.integer_in.result (c.integer_in.ensures.step (table_of c.args.arena.now.entries.items c.args.tables.now)))

pub returns-in-Some-clause-fits : goal.returns-in-Some-clause-fits
returns-in-Some-clause-fits c = refits c.args.arena.now.entries.items c.args.tables.now c.integer_in.new.classes c.requires.fits c.integer_in.ensures.classed c.integer_in.ensures.as_many

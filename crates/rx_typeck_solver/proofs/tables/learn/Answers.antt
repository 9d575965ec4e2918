use Rattle.rx_typeck_solver.specs.Tabled.{table_of}
use Rattle.rx_typeck_solver.proofs.States.{read_term, learnt_new, put_fits, learnt_known, restated, refits}
use Rattle.rx_typeck_solver.proofs.tables.learn.Goals as goal

pub unify-requires-clause-a : goal.unify-requires-clause-a
unify-requires-clause-a c = (read_term c.args.arena.now.entries.items c.args.tables.now c.args.of c.shape.result c.in-Some.known c.requires.fits c.shape.ensures c.in-Some.is).0

pub returns-in-Ok-clause-step : goal.returns-in-Ok-clause-step
returns-in-Ok-clause-step c = learnt_new c.args.arena.now.entries.items c.args.tables.now c.put.new.self c.args.of c.args.entry c.shape.result c.shape.ensures c.in-None.is c.in-Ok.ensures.here c.in-Ok.ensures.other c.in-Ok.ensures.classes

pub returns-in-Ok-clause-fits : goal.returns-in-Ok-clause-fits
returns-in-Ok-clause-fits c = put_fits c.args.arena.now.entries.items c.args.tables.now c.put.new.self c.args.of c.args.entry c.requires.fits c.requires.term c.in-Ok.ensures.here c.in-Ok.ensures.other c.in-Ok.ensures.classes c.in-Ok.ensures.trimmed

pub returns-in-Some-clause-step : goal.returns-in-Some-clause-step
returns-in-Some-clause-step c = learnt_known c.args.arena.now.entries.items c.args.tables.now c.args.of c.args.entry c.in-Some.known c.shape.result _ c.requires.fits c.requires.term c.shape.ensures c.in-Some.is
    (restated c.args.arena.now.entries.items c.args.tables.now c.unify.new.classes _ c.unify.result (c.unify.ensures.step (table_of c.args.arena.now.entries.items c.args.tables.now)))

pub returns-in-Some-clause-fits : goal.returns-in-Some-clause-fits
returns-in-Some-clause-fits c = refits c.args.arena.now.entries.items c.args.tables.now c.unify.new.classes c.requires.fits c.unify.ensures.classed c.unify.ensures.as_many

use Rattle.rx_typeck_solver.specs.declared.facts.Subject.TheVariants as subject
use Rattle.rx_typeck_solver.proofs.States.{read_term}
use Rattle.rx_typeck_solver.proofs.Lasting.{class_some, class_not, class_none}
use Rattle.rx_typeck_solver.proofs.last.class_at.Goals as goal

pub peeled-requires-clause-term : goal.peeled-requires-clause-term
peeled-requires-clause-term c = read_term c.args.arena.now.entries.items c.args.tables.now (subject.Node c.args.node) c.shape.result c.in-Some.entry c.requires.fits c.shape.ensures c.in-Some.is

pub returns-in-KindOf : goal.returns-in-KindOf
returns-in-KindOf c = class_some c.args.arena.now.entries.items c.args.tables.now c.requires.fits c.args.node c.in-Some.entry c.shape.result c.shape.ensures c.in-Some.is c.peeled.result c.form.result c.peeled.ensures.term c.peeled.ensures.value c.form.ensures c.in-KindOf.open c.parent_at.result c.requires.flat c.in-KindOf.is c.parent_at.ensures

pub returns-in_default : goal.returns-in_default
returns-in_default c = class_not c.args.arena.now.entries.items c.args.tables.now c.requires.fits c.args.node c.in-Some.entry c.shape.result c.shape.ensures c.in-Some.is c.peeled.result c.form.result c.peeled.ensures.term c.peeled.ensures.value c.form.ensures (λ k. c.in_default.not-KindOf k)

pub returns-in-None : goal.returns-in-None
returns-in-None c = class_none c.args.arena.now.entries.items c.args.tables.now c.args.node c.shape.result c.shape.ensures c.in-None.is

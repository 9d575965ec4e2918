use Rattle.rx_typeck_solver.specs.declared.facts.Subject.TheVariants as subject
use Rattle.rx_typeck_solver.proofs.States.{read_term}
use Rattle.rx_typeck_solver.proofs.Lasting.{open_is, open_not, open_none}
use Rattle.rx_typeck_solver.proofs.last.is_open.Goals as goal

pub form-requires : goal.form-requires
form-requires c = (read_term c.args.arena.now.entries.items c.args.tables.now (subject.Node c.args.node) c.shape.result c.in-Some.entry c.requires.fits c.shape.ensures c.in-Some.is).0

pub returns-in-KindOf : goal.returns-in-KindOf
returns-in-KindOf c = open_is c.args.arena.now.entries.items c.args.tables.now c.requires.fits c.args.node c.in-Some.entry c.shape.result c.shape.ensures c.in-Some.is c.form.result c.form.ensures c.in-KindOf.open c.in-KindOf.is

pub returns-in_default : goal.returns-in_default
returns-in_default c = open_not c.args.arena.now.entries.items c.args.tables.now c.requires.fits c.args.node c.in-Some.entry c.shape.result c.shape.ensures c.in-Some.is c.form.result c.form.ensures (λ k. c.in_default.not-KindOf k)

pub returns-in-None : goal.returns-in-None
returns-in-None c = open_none c.args.arena.now.entries.items c.args.tables.now c.args.node c.shape.result c.shape.ensures c.in-None.is

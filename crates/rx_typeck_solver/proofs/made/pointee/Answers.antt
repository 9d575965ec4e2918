use Rattle.rx_typeck_solver.proofs.Making as making
use Rattle.rx_typeck_solver.proofs.Making.{made_grown, made_old, made_new, made_equal}
use Rattle.rx_typeck_solver.proofs.made.pointee.Goals as goal

pub returns-in-Reference : goal.returns-in-Reference
returns-in-Reference c = making.pointee_some c.args.arena.now.entries.items c.requires.formed c.args.of c.form.result c.requires.term c.form.ensures c.in-Reference.field-0 c.in-Reference.to c.in-Reference.is

pub returns-in_default : goal.returns-in_default
returns-in_default c = making.pointee_none c.args.arena.now.entries.items c.requires.formed c.args.of c.form.result c.requires.term c.form.ensures (λ m j. c.in_default.not-Reference m j)

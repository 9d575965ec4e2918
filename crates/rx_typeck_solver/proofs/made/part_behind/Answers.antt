use Rattle.rx_typeck_solver.proofs.Making as making
use Rattle.rx_typeck_solver.proofs.Making.{made_grown, made_old, made_new, made_equal}
use Rattle.rx_typeck_solver.proofs.made.part_behind.Goals as goal

pub returns-in-Tuple : goal.returns-in-Tuple
returns-in-Tuple c = making.part_some c.args.arena.now.entries.items c.requires.formed c.peeled.result c.form.result c.peeled.ensures.term c.form.ensures c.in-Tuple.list c.args.number c.nth.result _ c.in-Tuple.is c.nth.ensures c.peeled.ensures.value

pub returns-in_default : goal.returns-in_default
returns-in_default c = making.part_none c.args.arena.now.entries.items c.requires.formed c.peeled.result c.form.result c.peeled.ensures.term c.form.ensures c.args.number _ (λ k. c.in_default.not-Tuple k) c.peeled.ensures.value

use Rattle.rx_typeck_solver.proofs.Making as making
use Rattle.rx_typeck_solver.proofs.Making.{made_grown, made_old, made_new, made_equal}
use Rattle.rx_typeck_solver.proofs.made.item_behind.Goals as goal

pub returns-in-Named : goal.returns-in-Named
returns-in-Named c = making.named_some c.args.arena.now.entries.items c.requires.formed c.peeled.result c.form.result c.peeled.ensures.term c.form.ensures c.in-Named.item _ c.in-Named.is c.peeled.ensures.value

pub returns-in_default : goal.returns-in_default
returns-in_default c = making.named_none c.args.arena.now.entries.items c.requires.formed c.peeled.result c.form.result c.peeled.ensures.term c.form.ensures _ (λ k. c.in_default.not-Named k) c.peeled.ensures.value

use Rattle.std.proofs.Common.{sym, ap, Some}
use Rattle.rx_typeck_solver.proofs.Making as making
use Rattle.rx_typeck_solver.proofs.Making.{made_grown, made_old, made_new, made_equal}
use Rattle.rx_typeck_solver.proofs.made.coerced.Goals as goal

pub returns-in-Ok : goal.returns-in-Ok
returns-in-Ok c = let p = making.coerced_some c.args.arena.now.entries.items c.requires.formed c.args.own c.args.expected c.form.result c.form-2.result c.requires.own c.requires.expected c.form.ensures c.form-2.ensures c.coercion.result c.in-Some.to c.coercion.ensures c.in-Some.is in
    made_new c.args.sizes.now c.args.arena.now.entries.items c.reference.new.self.entries.items c.in-Ok.entry _ _ c.requires.formed c.requires.sized (λ n b. c.in-Ok.ensures c.args.sizes.now n p.0 b) (sym p.1)

pub returns-in-None : goal.returns-in-None
returns-in-None c = made_old c.args.sizes.now c.args.arena.now.entries.items (Some c.args.expected) _ c.requires.sized (c.requires.expected, ap Some (making.coerced_none c.args.arena.now.entries.items c.requires.formed c.args.own c.args.expected c.form.result c.form-2.result c.requires.own c.requires.expected c.form.ensures c.form-2.ensures c.coercion.result c.coercion.ensures c.in-None.is))

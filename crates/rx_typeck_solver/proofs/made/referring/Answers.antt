use Rattle.std.proofs.Common.{refl, sym, Some}
use Rattle.rx_typed.specs.Types.{reference}
use Rattle.rx_typeck_solver.proofs.Making.{made_new, made_equal, one_term, one_entry}
use Rattle.rx_typeck_solver.proofs.made.referring.Goals as goal

pub returns-in-Ok : goal.returns-in-Ok
returns-in-Ok c = let t = one_term c.args.arena.now.entries.items c.args.ts.now c.only_one.result c.in-Some.to c.requires.terms c.only_one.ensures c.in-Some.is in
    made_equal c.args.sizes.now c.args.arena.now.entries.items c.reference.new.self.entries.items (Some c.in-Ok.entry) _ _ (made_new c.args.sizes.now c.args.arena.now.entries.items c.reference.new.self.entries.items c.in-Ok.entry _ _ c.requires.formed c.requires.sized (λ n b. c.in-Ok.ensures c.args.sizes.now n t b) refl)
    (sym (one_entry c.args.arena.now.entries.items c.args.ts.now (λ t. Some (reference c.args.mutable t)) c.only_one.result c.in-Some.to c.only_one.ensures c.in-Some.is))

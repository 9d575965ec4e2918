use Rattle.std.proofs.Common.{map, refl}
use Rattle.rx_tree.specs.PlainOf.{plain-Func, plain-Item}
use Rattle.rx_typeck.proofs.TypingLemmas.{typed}
use Rattle.rx_typeck.proofs.check.Check.elaborated.Goals as goal

pub returns-in-Ok : goal.returns-in-Ok
returns-in-Ok c solved vars found is before annotated =
    typed (map plain-Item c.args.self.now.items.now) c.args.self.now.decls.now c.args.self.now.sizes.now c.args.item c.args.span (plain-Func c.args.function.now) c.args.names.now vars _ c.args.described c.args.found solved before found is
    refl refl refl refl refl refl refl (c.in-Ok.ensures c.args.item) annotated

use Rattle.std.proofs.Common.{subst}
use Rattle.rx_typed.specs.PlainTypes.{declarations}
use Rattle.rx_typed.specs.PlainTree.{plain-Expr}
use Rattle.rx_cover.specs.Choices.{choices_of}
use Rattle.rx_cover.specs.Judging.{Told}
use Rattle.rx_cover.proofs.covering.covers.Goals as goal

pub returns-in-Ok-Some : goal.returns-in-Ok-Some
returns-in-Ok-Some c =
    let D = declarations c.args.decls.now.items in
    let cs = choices_of (plain-Expr c.args.tree.now.body) in
    c.fault_at.ensures D cs (subst (λ o. Told D cs o) c.in-Ok-Some.field-0-is c.in-Ok-Some.ensures)

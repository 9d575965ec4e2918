use Rattle.std.proofs.Common.{◌∙◌, arith}
use Rattle.rx_typed_declarations.specs.Sizes.{told}
use Rattle.rx_hoist_made.specs.PlainHanded.{plain-Handed}
use Rattle.rx_hoist.proofs.PartLemmas.{few_together, many_together}
use Rattle.rx_hoist.proofs.limits.together_parts.Goals as goal

pub returns-then-count-lt2 : goal.returns-then-count-lt2
returns-then-count-lt2 c =
    few_together (told c.args.sizes.now) (plain-Handed c.args.handed) c.count.result c.with_handed-total.result c.count.ensures.count c.if-count-lt2.true (omega (arith, c.with_handed-total.ensures))

pub returns : goal.returns
returns c =
    c.at_least_one.ensures
    ∙ many_together (told c.args.sizes.now) (plain-Handed c.args.handed) c.count.result c.with_handed-total.result c.count.ensures.count c.if-count-lt2.false (omega (arith, c.with_handed-total.ensures))

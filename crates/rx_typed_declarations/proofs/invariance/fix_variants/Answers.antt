use Rattle.std.proofs.Common.{◌∙◌}
use Rattle.rx_typed_declarations.proofs.FixingLemmas.{fixed_variants_more}
use Rattle.rx_typed_declarations.proofs.invariance.fix_variants.Goals as goal

pub loop-variant-preserved : goal.loop-variant-preserved
loop-variant-preserved c =
    fixed_variants_more c.args.table.now c.args.variants.now c.loop-variant.variant-index c.variant-item.result _ _
    c.loop-variant-test.true c.variant-item.is (cc)
    ∙ c.loop-variant.invariant

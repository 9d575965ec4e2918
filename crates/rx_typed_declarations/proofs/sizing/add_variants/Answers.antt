use Rattle.std.proofs.Common.{◌∙◌}
use Rattle.rx_typed_declarations.proofs.SizeLemmas.{told_variants_more}
use Rattle.rx_typed_declarations.proofs.sizing.add_variants.Goals as goal

pub loop-variant-preserved : goal.loop-variant-preserved
loop-variant-preserved c =
    told_variants_more c.args.sizes.now c.args.variants.now c.loop-variant.variant-index c.variant-item.result _ _
    c.loop-variant-test.true c.variant-item.is (cc)
    ∙ c.loop-variant.invariant

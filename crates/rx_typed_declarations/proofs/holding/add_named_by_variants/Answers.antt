use Rattle.std.proofs.Common.{◌∙◌}
use Rattle.rx_typed_declarations.proofs.HeldLemmas.{named_by_variants_more}
use Rattle.rx_typed_declarations.proofs.holding.add_named_by_variants.Goals as goal

pub loop-variant-preserved : goal.loop-variant-preserved
loop-variant-preserved c =
    named_by_variants_more c.args.variants.now c.loop-variant.variant-index c.variant-item.result _ _
    c.loop-variant-test.true c.variant-item.is (cc (c.in_ok-add_named_among.ensures))
    ∙ c.loop-variant.invariant

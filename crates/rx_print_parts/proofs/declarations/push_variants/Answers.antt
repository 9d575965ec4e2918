-- The goals that no tactic closes: by the lemmas of texts and lists written one part after the other.
use Rattle.rx_print_parts.proofs.WrittenItems.{entries_step}
use Rattle.rx_print_parts.proofs.Seen.{variants_seen}
use Rattle.rx_print_parts.proofs.declarations.push_variants.Goals as goal

pub loop-variant-preserved : goal.loop-variant-preserved
loop-variant-preserved c =
    entries_step variants_seen c.args.list.now c.loop-variant.variant-index c.variant-item.result c.loop-variant.out c.push_variant.new.out _ c.loop-variant-test.true c.variant-item.is
    c.in_ok-push_variant.ensures c.loop-variant.invariant

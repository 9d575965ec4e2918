use Rattle.std.proofs.Common.{◌∙◌, option_map}
use Rattle.rx_tree_operations.specs.NodeOf.{plain-Node}
use Rattle.rx_tree_operations.proofs.PositionsLemmas.{variant_here, variant_later}
use Rattle.rx_tree_operations.proofs.positions.variant_part.Goals as goal

pub returns-then-left-types : goal.returns-then-left-types
returns-then-left-types c = variant_here c.args.variants.now c.loop-variant.variant-index c.loop-variant.left c.variant-item.result c.as_slice-types.result.now (option_map plain-Node c.type_in.result) c.loop-variant-test.true c.variant-item.is c.as_slice-types.ensures c.if-left-types.true c.type_in.ensures ∙ c.loop-variant.invariant

pub loop-variant-preserved : goal.loop-variant-preserved
loop-variant-preserved c = variant_later c.args.variants.now c.loop-variant.variant-index c.loop-variant.left c.variant-item.result c.as_slice-types.result.now c.loop-variant-test.true c.variant-item.is c.as_slice-types.ensures c.if-left-types.false ∙ c.loop-variant.invariant

use Rattle.std.proofs.Common.{arith}
use Rattle.rx_typed_declarations.specs.Sizes.{told}
use Rattle.rx_facts_tables.proofs.Walking.{variant_fits, variant_room, variant_same}
use Rattle.rx_facts_tables.proofs.places.nth_variant.Goals as goal

pub overflow_add-first : goal.overflow_add-first
overflow_add-first c = omega (
  arith,
  variant_fits (told c.args.sizes.now) c.args.variants.now c.loop-variant.variant-index c.variant-item.result c.variant-item.result
      c.loop-variant-test.true c.variant-item.is c.as_slice-in-loop-variant.result.now c.sum_of-first.result c.as_slice-in-loop-variant.ensures c.sum_of-first.ensures
      c.loop-variant.left c.loop-variant.first c.args.number c.args.first c.requires c.loop-variant.invariant.room,
)

pub loop-variant-preserved : goal.loop-variant-preserved
loop-variant-preserved c = record {
  same = variant_same (told c.args.sizes.now) c.args.variants.now c.loop-variant.variant-index c.variant-item.result c.variant-item.result
      c.loop-variant-test.true c.variant-item.is c.as_slice-in-loop-variant.result.now c.sum_of-first.result c.as_slice-in-loop-variant.ensures c.sum_of-first.ensures
      c.loop-variant.left c.loop-variant.first c.args.number c.args.first c.requires c.loop-variant.invariant.room c.if-left-eq0.false c.loop-variant.invariant.same;
  room = variant_room (told c.args.sizes.now) c.args.variants.now c.loop-variant.variant-index c.variant-item.result c.variant-item.result
      c.loop-variant-test.true c.variant-item.is c.as_slice-in-loop-variant.result.now c.sum_of-first.result c.as_slice-in-loop-variant.ensures c.sum_of-first.ensures
      c.loop-variant.left c.loop-variant.first c.args.number c.args.first c.requires c.loop-variant.invariant.room;
}

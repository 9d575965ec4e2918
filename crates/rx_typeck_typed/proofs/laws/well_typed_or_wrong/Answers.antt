use Rattle.rx_typeck_typed.proofs.WellTyped as well
use Rattle.rx_typeck_typed.proofs.laws.well_typed_or_wrong.Goals as goal

pub returns : goal.returns
returns c = record {
  typed = λ p names t typed. well.well_typed p names t typed;
  either = λ p names numbered.
      well.either c.one_size_each.ensures.some c.declared_are_finite.ensures c.one_size_each.ensures.one c.demands_are_orderly.ensures p names numbered;
  one = λ p names t typed w. well.one_program c.one_size_each.ensures.some c.declared_are_finite.ensures p names t typed w;
  not_both = λ p names e w cause. well.not_both c.one_size_each.ensures.some c.declared_are_finite.ensures p names e w cause;
}

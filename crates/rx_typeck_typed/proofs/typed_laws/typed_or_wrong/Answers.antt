use Rattle.rx_typeck_typed.proofs.ExclusionLemmas as exclusion
use Rattle.rx_typeck_typed.proofs.typed_laws.typed_or_wrong.Goals as goal

pub returns : goal.returns
returns c p names t e typed cause =
    exclusion.typed_or_wrong c.declared_are_finite.ensures c.one_size_each.ensures.some p names t e typed cause

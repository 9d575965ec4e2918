use Rattle.rx_check.proofs.ExclusionLemmas.{causes_one}
use Rattle.rx_check.proofs.laws.causes_are_one.Goals as goal

pub returns : goal.returns
returns c = causes_one c.typed_or_wrong.ensures c.one_typed_program.ensures c.one_typing.ensures c.typed_declarations_are_finite.ensures.finite c.one_size_each.ensures.one

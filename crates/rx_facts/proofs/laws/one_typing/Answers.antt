use Rattle.rx_facts.proofs.Typings.{one_typing}
use Rattle.rx_facts.proofs.laws.one_typing.Goals as goal

pub returns : goal.returns
returns c = one_typing c.declared_are_finite.ensures c.one_size_each.ensures.some

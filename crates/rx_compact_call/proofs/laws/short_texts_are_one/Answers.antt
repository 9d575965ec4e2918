use Rattle.rx_compact_call.proofs.One.{one, unnamed}
use Rattle.rx_compact_call.proofs.laws.short_texts_are_one.Goals as goal

pub returns-clause-one : goal.returns-clause-one
returns-clause-one c = one

pub returns-clause-named : goal.returns-clause-named
returns-clause-named c = unnamed

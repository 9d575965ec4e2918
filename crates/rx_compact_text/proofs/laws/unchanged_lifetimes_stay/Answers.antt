use Rattle.rx_compact_text.proofs.Unchanged.{stays}
use Rattle.rx_compact_text.proofs.laws.unchanged_lifetimes_stay.Goals as goal

pub returns-clause-reference : goal.returns-clause-reference
returns-clause-reference c text x = stays x

pub returns-clause-argument : goal.returns-clause-argument
returns-clause-argument c x = stays x

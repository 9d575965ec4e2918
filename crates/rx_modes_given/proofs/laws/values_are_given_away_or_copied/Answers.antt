use Rattle.rx_modes_given.proofs.Needed.{by_value_or_copied}
use Rattle.rx_modes_given.proofs.laws.values_are_given_away_or_copied.Goals as goal

pub returns : goal.returns
returns c A muts k x u a h = by_value_or_copied A muts k x u a h

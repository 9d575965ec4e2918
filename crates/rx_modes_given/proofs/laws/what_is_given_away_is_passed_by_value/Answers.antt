use Rattle.rx_modes_given.proofs.Needed.{passed_by_value}
use Rattle.rx_modes_given.proofs.laws.what_is_given_away_is_passed_by_value.Goals as goal

pub returns : goal.returns
returns c A muts k x u m a g h = passed_by_value A muts k x u m a g h

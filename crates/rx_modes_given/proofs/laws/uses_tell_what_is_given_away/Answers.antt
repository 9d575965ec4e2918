use Rattle.rx_modes_given.proofs.Telling.{given_told}
use Rattle.rx_modes_given.proofs.laws.uses_tell_what_is_given_away.Goals as goal

pub returns : goal.returns
returns c A muts k x u a = given_told A muts k x u a

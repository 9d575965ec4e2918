use Rattle.rx_modes_uses.proofs.One.{all_allowed}
use Rattle.rx_modes_uses.proofs.laws.modes_are_allowed.Goals as goal

pub returns : goal.returns
returns c A muts k choice ms f p = all_allowed A muts k choice ms f p

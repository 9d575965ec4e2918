use Rattle.rx_modes_uses.proofs.One.{no_modes}
use Rattle.rx_modes_uses.proofs.laws.refused_runs_have_no_modes.Goals as goal

pub returns : goal.returns
returns c A muts k choice x ms f p = no_modes A muts k choice x ms f p

use Rattle.rx_modes_uses.proofs.One.{modes_or_none}
use Rattle.rx_modes_uses.proofs.laws.modes_or_a_refusal.Goals as goal

pub returns : goal.returns
returns c A muts k choice u = modes_or_none A muts k choice k.params u

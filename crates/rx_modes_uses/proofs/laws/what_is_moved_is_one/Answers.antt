use Rattle.rx_modes_uses.proofs.Planned.{same_moves}
use Rattle.rx_modes_uses.proofs.laws.what_is_moved_is_one.Goals as goal

pub returns : goal.returns
returns c A muts k x u a = same_moves A muts k x u a

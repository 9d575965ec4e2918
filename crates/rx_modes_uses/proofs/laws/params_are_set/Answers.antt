use Rattle.rx_modes_uses.proofs.Planned.{set_where_entered}
use Rattle.rx_modes_uses.proofs.laws.params_are_set.Goals as goal

pub returns : goal.returns
returns c A muts k x u p i s a = set_where_entered A muts k x u p i s a

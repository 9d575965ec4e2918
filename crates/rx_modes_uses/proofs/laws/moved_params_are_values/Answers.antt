use Rattle.rx_modes_uses.proofs.Planned.{moved_by_value}
use Rattle.rx_modes_uses.proofs.laws.moved_params_are_values.Goals as goal

pub returns : goal.returns
returns c A muts k choice x m f p e = moved_by_value A muts k choice x m f p e

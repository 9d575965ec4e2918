use Rattle.rx_engine_blocks.proofs.Fixing.{fitting_is}
use Rattle.rx_engine_blocks.proofs.laws.what_fits_is_fixed.Goals as goal

pub returns : goal.returns
returns c = λ t u e o f g. fitting_is t u e o f g

use Rattle.rx_engine_blocks.proofs.Giving.{call_fits, variant_fits}
use Rattle.rx_engine_blocks.proofs.laws.what_is_given_fits.Goals as goal

pub returns : goal.returns
returns c = λ D C f n es ds a. (λ g h. call_fits D C f n g es a ds h, λ i v h. variant_fits D C f n i v es a ds h)

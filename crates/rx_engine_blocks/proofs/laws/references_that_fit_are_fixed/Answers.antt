use Rattle.rx_engine_blocks.proofs.Fixing.{reference_is}
use Rattle.rx_engine_blocks.proofs.laws.references_that_fit_are_fixed.Goals as goal

pub returns : goal.returns
returns c = λ m t u h. reference_is m t u h

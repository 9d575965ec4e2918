use Rattle.rx_engine_blocks.proofs.Renumbered.{renumbered_valid}
use Rattle.rx_engine_blocks.proofs.laws.renumbered_are_valid.Goals as goal

pub returns : goal.returns
returns c = λ r D E k i ds es l o A v. renumbered_valid r D E k i ds es l A o v

use Rattle.rx_engine_blocks.specs.Blocks.{ToldIn}
use Rattle.rx_engine_blocks.proofs.Standing.{seen_stands}
use Rattle.rx_engine_blocks.proofs.laws.references_stand_for_variables.Goals as goal

pub returns : goal.returns
returns c = λ r u view behind q elsewhere fs D E k A V es f m gs hs z. seen_stands r u view behind (ToldIn q elsewhere fs) D E k A V es f m gs hs z

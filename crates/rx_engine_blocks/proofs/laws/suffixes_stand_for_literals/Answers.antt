use Rattle.rx_engine_blocks.specs.Blocks.{ToldIn}
use Rattle.rx_engine_blocks.proofs.Standing.{pinned_stands}
use Rattle.rx_engine_blocks.proofs.laws.suffixes_stand_for_literals.Goals as goal

pub returns : goal.returns
returns c = λ r u view behind q elsewhere fs D E k A V es gs hs z. pinned_stands r u view behind (ToldIn q elsewhere fs) D E k A V es gs hs z

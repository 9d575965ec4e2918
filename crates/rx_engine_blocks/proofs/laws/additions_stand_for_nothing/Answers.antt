use Rattle.rx_engine_blocks.specs.Blocks.{ToldIn}
use Rattle.rx_engine_blocks.proofs.Standing.{added_stands}
use Rattle.rx_engine_blocks.proofs.laws.additions_stand_for_nothing.Goals as goal

pub returns : goal.returns
returns c = λ r u view behind q elsewhere fs D E k A V es gs h. added_stands r u view behind (ToldIn q elsewhere fs) D E k A V es gs h

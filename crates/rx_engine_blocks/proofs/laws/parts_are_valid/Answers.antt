use Rattle.rx_engine_blocks.specs.Blocks.{ToldIn}
use Rattle.rx_engine_blocks.proofs.Tying.{part_by_itself}
use Rattle.rx_engine_blocks.proofs.laws.parts_are_valid.Goals as goal

pub returns : goal.returns
returns c = λ r u view behind q elsewhere fs D E k A V ds es h m o x b v i. part_by_itself r u view behind (ToldIn q elsewhere fs) D E k A V ds es h m o x b v i

use Rattle.rx_engine_blocks.proofs.Meets.{each_there, each_back}
use Rattle.rx_engine_blocks.proofs.laws.renumbered_are_met.Goals as goal

pub returns : goal.returns
returns c r D E k A B a ds es l = (each_there r D E k A B a l, each_back r D E k A B a l)

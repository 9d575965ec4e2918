use Rattle.rx_engine_changed.proofs.Pieces.{chosen}
use Rattle.rx_engine_changed.proofs.laws.pieces_tell_a_numbering.Goals as goal

pub returns : goal.returns
returns k items M a b c d fa fb fc fd vs bs ls bl ps last last' g i one = chosen items M a b c d fa fb fc fd vs bs ls bl ps last last' g i one

use Rattle.rx_engine_blocks.proofs.Pairing.{pairs_inverse}
use Rattle.rx_engine_blocks.proofs.laws.pairs_can_be_undone.Goals as goal

pub returns : goal.returns
returns c = λ ns xs big items o p. pairs_inverse ns xs big items o p

use Rattle.rx_engine_changed.proofs.Pieces.{least_serves, one_to_one}
use Rattle.rx_engine_changed.proofs.laws.made_pairs_are_one_to_one.Goals as goal

pub returns : goal.returns
returns k items M a b c d fa fb fc fd vs bs ls bl = (one_to_one items M a b c d fa fb fc fd vs bs ls bl, λ z. least_serves items M a b c d fa fb fc fd z)

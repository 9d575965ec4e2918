use Rattle.rx_engine_related.proofs.Left.{others_dead}
use Rattle.rx_engine_related.proofs.histories_laws.what_is_not_handed_out_is_not_living.Goals as goal

pub returns : goal.returns
returns c = others_dead

use Rattle.rx_engine_related.proofs.Left.{out_living}
use Rattle.rx_engine_related.proofs.histories_laws.outs_are_living.Goals as goal

pub returns : goal.returns
returns c = out_living

use Rattle.rx_engine_related.proofs.Left.{out_written}
use Rattle.rx_engine_related.proofs.histories_laws.outs_are_written.Goals as goal

pub returns : goal.returns
returns c = out_written

use Rattle.rx_engine_simulation.proofs.Rereads.{rereads_run_as}
use Rattle.rx_engine_simulation.proofs.laws.reborrows_run_as_reads.Goals as goal

pub returns : goal.returns
returns c = rereads_run_as

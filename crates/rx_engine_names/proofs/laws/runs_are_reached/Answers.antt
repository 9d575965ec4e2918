use Rattle.rx_engine_names.proofs.ReachedRuns.{run_reached}
use Rattle.rx_engine_names.proofs.laws.runs_are_reached.Goals as goal

pub returns : goal.returns
returns c = run_reached

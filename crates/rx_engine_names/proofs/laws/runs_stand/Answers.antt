use Rattle.rx_engine_names.proofs.FreeRuns.{run_stands}
use Rattle.rx_engine_names.proofs.laws.runs_stand.Goals as goal

pub returns : goal.returns
returns c = run_stands

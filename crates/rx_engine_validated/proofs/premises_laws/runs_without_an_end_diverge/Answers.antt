use Rattle.rx_engine_validated.proofs.Runs.{no_end}
use Rattle.rx_engine_validated.proofs.premises_laws.runs_without_an_end_diverge.Goals as goal

pub returns : goal.returns
returns c = no_end

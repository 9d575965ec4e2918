use Rattle.rx_engine_simulation.proofs.Whole.{renamed_alike}
use Rattle.rx_engine_simulation.proofs.laws.renamed_programs_run_alike.Goals as goal

pub returns : goal.returns
returns c = renamed_alike

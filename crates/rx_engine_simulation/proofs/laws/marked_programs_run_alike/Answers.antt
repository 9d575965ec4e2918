use Rattle.rx_engine_simulation.proofs.Marked.{marked_alike}
use Rattle.rx_engine_simulation.proofs.laws.marked_programs_run_alike.Goals as goal

pub returns : goal.returns
returns c = marked_alike

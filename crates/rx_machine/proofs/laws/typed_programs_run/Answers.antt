use Rattle.rx_machine.proofs.TypedLemmas.{runs_as}
use Rattle.rx_machine.proofs.laws.typed_programs_run.Goals as goal

pub returns : goal.returns
returns c = λ P ns t h. runs_as P ns t h

use Rattle.rx_machine.proofs.TypedLemmas.{runs_text}
use Rattle.rx_machine.proofs.laws.checked_programs_run.Goals as goal

pub returns : goal.returns
returns c = λ P x h. runs_text P x h

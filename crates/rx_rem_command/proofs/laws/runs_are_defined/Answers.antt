-- By the cases of the definition.
use Rattle.rx_rem_command.proofs.RunLemmas.{run_defined, refusal_defined}
use Rattle.rx_rem_command.proofs.laws.runs_are_defined.Goals as goal

pub returns-clause-accepted : goal.returns-clause-accepted
returns-clause-accepted c = run_defined

pub returns-clause-refused : goal.returns-clause-refused
returns-clause-refused c = refusal_defined

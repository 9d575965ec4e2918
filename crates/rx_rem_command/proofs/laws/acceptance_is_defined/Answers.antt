-- By the cases of the definition.
use Rattle.rx_rem_command.proofs.Agreement.{acceptance_defined, done_accepted}
use Rattle.rx_rem_command.proofs.laws.acceptance_is_defined.Goals as goal

pub returns-clause-accepted : goal.returns-clause-accepted
returns-clause-accepted c = acceptance_defined

pub returns-clause-only : goal.returns-clause-only
returns-clause-only c = done_accepted

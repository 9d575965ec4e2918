use Rattle.rx_engine.proofs.Running.{outcome_one, outcome_some}
use Rattle.rx_engine.proofs.laws.one_outcome.Goals as goal

pub returns-clause-some : goal.returns-clause-some
returns-clause-some c = outcome_some

pub returns-clause-one : goal.returns-clause-one
returns-clause-one c = outcome_one c.one_typed_program.ensures

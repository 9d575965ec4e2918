use Rattle.rx_engine_validated.proofs.UnitFunctions.{program_returns}
use Rattle.rx_engine_validated.proofs.premises_laws.unit_functions_give_the_unit.Goals as goal

pub returns : goal.returns
returns c = λ p t few front main reads. program_returns p front.names t front.typed main reads

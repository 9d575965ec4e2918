use Rattle.rx_engine_validated.proofs.MarkedUnits.{marks_keep}
use Rattle.rx_engine_validated.proofs.premises_laws.marks_keep_unit_functions.Goals as goal

pub returns : goal.returns
returns c = marks_keep

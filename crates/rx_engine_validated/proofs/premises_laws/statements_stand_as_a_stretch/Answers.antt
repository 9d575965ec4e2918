use Rattle.rx_engine_validated.proofs.Forms.{stretch_before}
use Rattle.rx_engine_validated.proofs.premises_laws.statements_stand_as_a_stretch.Goals as goal

pub returns : goal.returns
returns c = stretch_before

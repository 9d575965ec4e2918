use Rattle.rx_engine_alike_laws.proofs.Functions.{each_if}
use Rattle.rx_engine_alike_laws.proofs.laws.like_programs_are_themselves.Goals as goal

pub returns : goal.returns
returns c = each_if

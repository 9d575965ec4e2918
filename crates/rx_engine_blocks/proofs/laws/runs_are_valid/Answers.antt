use Rattle.rx_engine_blocks.proofs.Around.{both_by_themselves}
use Rattle.rx_engine_blocks.proofs.laws.runs_are_valid.Goals as goal

pub returns : goal.returns
returns c = both_by_themselves

use Rattle.rx_engine_related.proofs.Sole.{jump_stands_once}
use Rattle.rx_engine_related.proofs.histories_laws.single_jumps_stand_once.Goals as goal

pub returns : goal.returns
returns c = jump_stands_once

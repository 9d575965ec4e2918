use Rattle.rx_engine_related.proofs.Sole.{end_stands_once}
use Rattle.rx_engine_related.proofs.histories_laws.ends_stand_once.Goals as goal

pub returns : goal.returns
returns c = end_stands_once

use Rattle.rx_engine_related.proofs.Points.{comes_to_mark}
use Rattle.rx_engine_related.proofs.histories_laws.histories_come_to_marks.Goals as goal

pub returns : goal.returns
returns c = comes_to_mark

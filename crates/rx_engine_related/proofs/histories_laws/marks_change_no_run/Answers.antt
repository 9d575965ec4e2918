use Rattle.rx_engine_related.proofs.MarkedRun.{marked_run_alike}
use Rattle.rx_engine_related.proofs.histories_laws.marks_change_no_run.Goals as goal

pub returns : goal.returns
returns c = marked_run_alike

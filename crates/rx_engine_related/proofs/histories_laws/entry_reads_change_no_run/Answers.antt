use Rattle.rx_engine_related.proofs.ReadingRun.{reading_alike}
use Rattle.rx_engine_related.proofs.histories_laws.entry_reads_change_no_run.Goals as goal

pub returns : goal.returns
returns c = reading_alike

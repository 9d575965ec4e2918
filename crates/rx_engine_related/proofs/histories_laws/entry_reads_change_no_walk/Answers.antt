use Rattle.rx_engine_related.proofs.Plainly.{without_reads}
use Rattle.rx_engine_related.proofs.histories_laws.entry_reads_change_no_walk.Goals as goal

pub returns : goal.returns
returns c = without_reads

use Rattle.rx_meaning_keeping.proofs.Parts.{parted}
use Rattle.rx_engine_related.proofs.Setting.{set_written}
use Rattle.rx_engine_related.proofs.histories_laws.set_variables_were_written.Goals as goal

pub returns : goal.returns
returns c F muts f sized init x n is h k e = set_written F (parted F sized) muts f init x n is h k e

use Rattle.rx_compact_read.proofs.File.{short_read}
use Rattle.rx_compact_read.proofs.laws.short_signatures_are_read.Goals as goal

pub returns : goal.returns
returns c = short_read

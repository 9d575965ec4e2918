use Rattle.rx_compact_call.proofs.Read.{read}
use Rattle.rx_compact_call.proofs.laws.short_texts_are_read.Goals as goal

pub returns : goal.returns
returns c = read c.short_signatures_are_read.ensures

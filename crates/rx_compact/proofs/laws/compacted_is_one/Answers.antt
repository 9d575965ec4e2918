use Rattle.rx_compact.proofs.Compacting.{one}
use Rattle.rx_compact.proofs.laws.compacted_is_one.Goals as goal

pub returns : goal.returns
returns c = one

use Rattle.rx_engine_alike_laws.proofs.Functions.{same_if}
use Rattle.rx_engine_alike_laws.proofs.laws.alike_items_are_same.Goals as goal

pub returns : goal.returns
returns c = same_if

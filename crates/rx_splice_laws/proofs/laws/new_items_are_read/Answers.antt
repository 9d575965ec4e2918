-- The header stands in front of the body.
use Rattle.rx_splice_laws.proofs.NewItems.{new_items}
use Rattle.rx_splice_laws.proofs.laws.new_items_are_read.Goals as goal

pub returns : goal.returns
returns c = λ f locals r run o want h F e m k. new_items f locals r run o want h F e m k

use Rattle.rx_cert_tables.proofs.Same.{items_of_one_set}
use Rattle.rx_cert_tables.proofs.laws.set_items_are_unique.Goals as goal

pub returns : goal.returns
returns c = items_of_one_set

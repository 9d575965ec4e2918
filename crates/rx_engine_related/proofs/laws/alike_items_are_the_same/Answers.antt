use Rattle.rx_engine_related.proofs.Same.{entry_same, each_itself}
use Rattle.rx_engine_related.proofs.laws.alike_items_are_the_same.Goals as goal

pub returns-clause-same : goal.returns-clause-same
returns-clause-same c = entry_same

pub returns-clause-itself : goal.returns-clause-itself
returns-clause-itself c = each_itself

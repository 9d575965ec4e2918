use Rattle.rx_facts_laws.proofs.Tables.{one_table}
use Rattle.rx_facts_laws.proofs.laws.one_table.Goals as goal

pub returns : goal.returns
returns c = one_table c.declared_are_finite.ensures c.one_size_each.ensures.some

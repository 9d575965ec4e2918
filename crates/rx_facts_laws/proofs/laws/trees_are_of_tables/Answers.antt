use Rattle.rx_facts_laws.proofs.OfTables.{of_its_tables}
use Rattle.rx_facts_laws.proofs.laws.trees_are_of_tables.Goals as goal

pub returns : goal.returns
returns c = of_its_tables

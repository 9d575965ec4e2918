use Rattle.std.proofs.Common.{sym}
use Rattle.rx_facts_tables.proofs.Walking.{none_of}
use Rattle.rx_facts_tables.proofs.places.start_of.Goals as goal

pub returns-in-None : goal.returns-in-None
returns-in-None c = none_of c.args.layout.now.starts c.args.variable 0 (sym c.in-None.ensures.value)

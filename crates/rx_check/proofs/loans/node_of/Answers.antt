use Rattle.std.proofs.Common.{ap, sym}
use Rattle.rx_facts_tables.proofs.Each.{site_there}
use Rattle.rx_check.specs.Functions.{node_at}
use Rattle.rx_check.proofs.Telling.{no_node}
use Rattle.rx_check.proofs.loans.node_of.Goals as goal

pub returns-in-Some : goal.returns-in-Some
returns-in-Some c = sym (ap node_at (site_there c.args.sites.now c.args.site c.in-Some.site.now c.in-Some.site.now c.in-Some.ensures.lookup.3.0 c.in-Some.ensures.lookup.1))

pub returns-in-None : goal.returns-in-None
returns-in-None c = sym (no_node c.args.sites.now c.args.site c.in-None.ensures.lookup.3)

use Rattle.rx_facts_tables.proofs.Each.{next_there}
use Rattle.rx_facts_tables.proofs.onward.OnwardLeads.targets.Goals as goal

pub returns-in-Some : goal.returns-in-Some
returns-in-Some c = next_there c.args.self.now.sites.now c.args.site c.in-Some.site.now c.as_slice.result.now c.in-Some.ensures.lookup.3.0 (c.in-Some.ensures.lookup.3.1 c.in-Some.site.now) c.as_slice.ensures

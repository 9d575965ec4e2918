use Rattle.rx_facts_tables.proofs.Each.{all_do}
use Rattle.rx_facts_tables.specs.Effects.{DoesAt}
use Rattle.rx_facts_tables.proofs.table.effects.Goals as goal

pub returns : goal.returns
returns c = all_do (DoesAt c.args.index.now.roots) c.loop-site.all.items c.args.sites.now c.loop-site.site-index c.loop-site-test.false c.loop-site.invariant

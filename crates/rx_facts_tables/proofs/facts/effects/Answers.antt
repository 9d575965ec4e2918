use Rattle.rx_facts_tables.specs.Layouts.{plain-Frame}
use Rattle.rx_facts_tables.specs.Tables.{DoesAt, switches}
use Rattle.rx_facts_tables.proofs.Each.{all_do}
use Rattle.rx_facts_tables.proofs.facts.effects.Goals as goal

pub returns : goal.returns
returns c = all_do (DoesAt (switches (plain-Frame c.args.setup.now.frame.now) c.args.setup.now.watched.now c.args.kind)) c.loop-site.all.items c.args.sites.now c.loop-site.site-index
    c.loop-site-test.false c.loop-site.invariant

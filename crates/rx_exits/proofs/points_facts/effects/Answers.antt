use Rattle.rx_facts_tables.specs.Layouts.{plain-Frame}
use Rattle.rx_facts_tables.specs.Tables.{DoesAt}
use Rattle.rx_exits.specs.Facts.{switches}
use Rattle.rx_facts_tables.proofs.Each.{all_do}
use Rattle.rx_exits.proofs.points_facts.effects.Goals as goal

pub returns : goal.returns
returns c = all_do (DoesAt (switches (plain-Frame c.args.setup.now.frame.now) c.args.kind)) c.loop-site.all.items c.args.sites.now c.loop-site.site-index
    c.loop-site-test.false c.loop-site.invariant

use Rattle.rx_lower_walks.specs.Graph.{Site}
use Rattle.rx_facts_tables.specs.Tables.{KeepsFor}
use Rattle.rx_facts_tables.proofs.Fronts.{keeps_for}
use Rattle.rx_facts_tables.proofs.Each.{each_more, each_done}
use Rattle.rx_facts_tables.proofs.watching.watched.Goals as goal

pub loop-site-preserved : goal.loop-site-preserved
loop-site-preserved c = each_more (λ i (s : Site). KeepsFor c.watch_for.new.watched s.action.act) c.args.sites.now c.loop-site.site-index c.site-item.result c.site-item.result
    c.loop-site-test.true c.site-item.is c.in_ok-watch_for.ensures.kept
    (λ i s e h. keeps_for c.loop-site.all c.watch_for.new.watched s.action.act c.in_ok-watch_for.ensures.keeps (c.loop-site.invariant i s e h))

pub returns-clause-kept : goal.returns-clause-kept
returns-clause-kept c = each_done (λ i (s : Site). KeepsFor c.loop-site.all s.action.act) c.args.sites.now c.loop-site.site-index c.loop-site-test.false c.loop-site.invariant

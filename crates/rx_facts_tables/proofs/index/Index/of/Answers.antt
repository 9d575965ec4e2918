use Rattle.rx_lower_walks.specs.Graph.{Site}
use Rattle.rx_facts_tables.proofs.Each.{each_more, each_done}
use Rattle.rx_facts_tables.specs.LiveTables.{HasUsed}
use Rattle.rx_facts_tables.proofs.Numbering.{has_used}
use Rattle.rx_facts_tables.proofs.index.Index.of.Goals as goal

pub loop-site-preserved : goal.loop-site-preserved
loop-site-preserved c = record {
  index = c.in_ok-add_used.ensures.index;
  used = each_more (λ i (s : Site). HasUsed c.add_used.new.self.roots s.action.act) c.args.sites.now c.loop-site.site-index c.site-item.result c.site-item.result
      c.loop-site-test.true c.site-item.is c.in_ok-add_used.ensures.kept
      (λ i s e h. has_used c.loop-site.index.roots c.add_used.new.self.roots s.action.act c.in_ok-add_used.ensures.keeps (c.loop-site.invariant.used i s e h));
}

pub returns-clause-kept : goal.returns-clause-kept
returns-clause-kept c = each_done (λ i (s : Site). HasUsed c.loop-site.index.roots s.action.act) c.args.sites.now c.loop-site.site-index c.loop-site-test.false c.loop-site.invariant.used

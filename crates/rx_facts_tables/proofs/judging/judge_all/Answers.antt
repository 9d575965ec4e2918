use Rattle.std.proofs.Common.{get_or, refl}
use Rattle.rx_lower_walks.specs.Graph.{Site}
use Rattle.rx_lower_walks.specs.PlainSite.{plain-Site}
use Rattle.rx_facts_tables.specs.Judged.{Well}
use Rattle.rx_facts_tables.proofs.Each.{site_there, each_more, each_done}
use Rattle.rx_facts_tables.proofs.judging.judge_all.Goals as goal

pub loop-i-preserved : goal.loop-i-preserved
loop-i-preserved c = each_more (λ i (s : Site). Well c.args.setup.now c.args.mutable.now c.args.facts.now i s.action) c.args.sites.now c.loop-i.i
    (get_or c.args.sites.now c.loop-i.i c.index-sites-i.result) c.index-sites-i.result c.loop-i-test.true refl c.in-Ok.ensures.well c.loop-i.invariant

pub returns-in-Err-clause-ill : goal.returns-in-Err-clause-ill
returns-in-Err-clause-ill c = (
  c.loop-i.i,
  plain-Site (get_or c.args.sites.now c.loop-i.i c.index-sites-i.result),
  site_there c.args.sites.now c.loop-i.i (get_or c.args.sites.now c.loop-i.i c.index-sites-i.result) c.index-sites-i.result c.loop-i-test.true refl,
  c.in-Err.ensures.ill,
)

pub returns-clause-well : goal.returns-clause-well
returns-clause-well c = each_done (λ i (s : Site). Well c.args.setup.now c.args.mutable.now c.args.facts.now i s.action) c.args.sites.now c.loop-i.i c.loop-i-test.false c.loop-i.invariant

use Rattle.std.proofs.Common.{get_or, refl}
use Rattle.rx_lower_walks.specs.Graph.{Site}
use Rattle.rx_facts_tables.proofs.Each.{each_done}
use Rattle.rx_exits.proofs.Looking.{Below, below_more}
use Rattle.rx_exits.proofs.acts.past_all.Goals as goal

pub loop-i-preserved : goal.loop-i-preserved
loop-i-preserved c = below_more c.args.sites.now c.loop-i.i c.loop-i.least c.past-least.result (get_or c.args.sites.now c.loop-i.i c.index-sites-i.result) c.index-sites-i.result
    c.loop-i-test.true refl c.past-least.ensures.more c.past-least.ensures.past c.loop-i.invariant

pub returns : goal.returns
returns c = each_done (λ i (s : Site). Below c.loop-i.least s) c.args.sites.now c.loop-i.i c.loop-i-test.false c.loop-i.invariant

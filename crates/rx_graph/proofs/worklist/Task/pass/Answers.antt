use Rattle.std.proofs.Common.{get_or}
use Rattle.std.proofs.lemmas.Option.{slice_get-get_or}
use Rattle.rx_graph.proofs.Working.{passed_on}
use Rattle.rx_graph.proofs.worklist.Task.pass.Goals as goal

pub step-requires-clause-from : goal.step-requires-clause-from
step-requires-clause-from g c = c.requires.stands.sound.fits c.args.site (get_or c.args.rows.now c.args.site c.index-rows-site.result)
    (slice_get-get_or c.args.rows.now c.args.site c.index-rows-site.result c.requires.site)

pub returns-clause-stands : goal.returns-clause-stands
returns-clause-stands g c = passed_on (g.F.Facts.rules c.args.self.now.facts.now) (g.met.F.Facts.lawful c.args.self.now.facts.now) (g.G.Leads.edges c.args.self.now.graph.now) c.args.site
    c.index-rows-site.result c.step.new.into c.args.rows.now c.spread.new.rows c.args.pending.now c.spread.new.pending c.targets.result.now c.requires.site c.requires.stands
    c.step.ensures.steps c.targets.ensures c.spread.ensures.passed

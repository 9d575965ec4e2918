use Rattle.rx_graph.proofs.Working.{begin_handing, more_handed, end_handing}
use Rattle.rx_graph.proofs.worklist.Task.spread.Goals as goal

pub sites-init : goal.sites-init
sites-init g c = begin_handing (g.F.Facts.rules c.args.self.now.facts.now) (g.met.F.Facts.lawful c.args.self.now.facts.now) (g.G.Leads.edges c.args.self.now.graph.now) c.args.sites.now c.args.row.now
    c.args.rows.now c.args.pending.now c.requires.fits

pub sites-preserved : goal.sites-preserved
sites-preserved g c = more_handed (g.F.Facts.rules c.args.self.now.facts.now) (g.met.F.Facts.lawful c.args.self.now.facts.now) (g.G.Leads.edges c.args.self.now.graph.now) c.args.sites.now c.args.row.now
    c.args.rows.now c.sites.rows c.join_at-more.new.rows c.args.pending.now c.sites.pending c.join_at-more.new.pending c.sites.k c.sites.grown c.join_at-more.result c.sites-test.true
    c.join_at-more.ensures c.sites.invariant

pub returns-clause-passed : goal.returns-clause-passed
returns-clause-passed g c = end_handing (g.F.Facts.rules c.args.self.now.facts.now) (g.met.F.Facts.lawful c.args.self.now.facts.now) (g.G.Leads.edges c.args.self.now.graph.now) c.args.sites.now c.args.row.now
    c.args.rows.now c.sites.rows c.args.pending.now c.sites.pending c.sites.k c.sites.grown c.sites-test.false c.sites.invariant

pub returns-clause-grown : goal.returns-clause-grown
returns-clause-grown g c = c.sites.invariant.grown

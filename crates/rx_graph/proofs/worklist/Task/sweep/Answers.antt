use Rattle.rx_graph.proofs.Working.{begin_sweep, more_swept, end_sweep}
use Rattle.rx_graph.proofs.worklist.Task.sweep.Goals as goal

pub sites-init : goal.sites-init
sites-init g c = (
  begin_sweep (g.F.Facts.rules c.args.self.now.facts.now) (g.met.F.Facts.lawful c.args.self.now.facts.now) (g.G.Leads.edges c.args.self.now.graph.now) c.is_backward-down.result
      c.args.rows.now c.args.pending.now c.requires.stands,
  c.requires.scratch,
)

pub sites-preserved : goal.sites-preserved
sites-preserved g c = (
  more_swept (g.F.Facts.rules c.args.self.now.facts.now) (g.met.F.Facts.lawful c.args.self.now.facts.now) (g.G.Leads.edges c.args.self.now.graph.now) c.is_backward-down.result
      c.args.rows.now c.sites.rows c.visit-more.new.rows c.args.pending.now c.sites.pending c.visit-more.new.pending c.sites.k c.sites.grown c.visit-more.result
      c.sites-test.true c.visit-more.ensures.stands c.visit-more.ensures.grown c.site_at.result c.site_at.ensures c.visit-more.ensures.done c.sites.invariant.0,
  c.visit-more.ensures.scratch,
)

pub returns-clause-done : goal.returns-clause-done
returns-clause-done g c = end_sweep (g.F.Facts.rules c.args.self.now.facts.now) (g.met.F.Facts.lawful c.args.self.now.facts.now) (g.G.Leads.edges c.args.self.now.graph.now) c.is_backward-down.result
    c.args.rows.now c.sites.rows c.args.pending.now c.sites.pending c.sites.k c.sites.grown c.sites-test.false c.sites.invariant.0

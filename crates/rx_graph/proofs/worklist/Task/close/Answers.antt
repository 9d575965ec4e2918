use Rattle.std.proofs.Common.{subst, sym, ◌<◌}
use Rattle.rx_graph.proofs.Working.{fewer_sweeps, sweeps_left, still_none, solved}
use Rattle.rx_graph.proofs.worklist.Task.close.Goals as goal

pub sweeps-smaller : goal.sweeps-smaller
sweeps-smaller g c =
    let R = g.F.Facts.rules c.args.self.now.facts.now in let L = g.met.F.Facts.lawful c.args.self.now.facts.now in let edges = g.G.Leads.edges c.args.self.now.graph.now in
    subst (λ b. sweeps_left R L edges c.sweep-grown.new.rows c.sweep-grown.result < sweeps_left R L edges c.sweeps.rows b) (sym c.sweeps-test.true)
    (fewer_sweeps R L edges c.sweeps.rows c.sweep-grown.new.rows c.sweeps.pending c.sweep-grown.new.pending c.sweep-grown.result c.sweep-grown.ensures.stands c.sweep-grown.ensures.grown)

pub sweeps-preserved : goal.sweeps-preserved
sweeps-preserved g c = (
  c.sweep-grown.ensures.stands,
  c.sweep-grown.ensures.scratch,
  still_none (g.F.Facts.rules c.args.self.now.facts.now) (g.met.F.Facts.lawful c.args.self.now.facts.now) (g.G.Leads.edges c.args.self.now.graph.now)
      c.sweeps.rows c.sweep-grown.new.rows c.sweeps.pending c.sweep-grown.new.pending c.sweep-grown.result c.sweeps.invariant.0 c.sweep-grown.ensures.stands c.sweep-grown.ensures.done,
)

pub returns : goal.returns
returns g c = solved (g.F.Facts.rules c.args.self.now.facts.now) (g.met.F.Facts.lawful c.args.self.now.facts.now) (g.G.Leads.edges c.args.self.now.graph.now) c.sweeps.rows c.sweeps.pending c.sweeps.invariant.0
    (c.sweeps.invariant.2 c.sweeps-test.false)

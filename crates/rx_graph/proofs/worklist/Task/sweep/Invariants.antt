use Rattle.rx_graph.proofs.Working.{Sweeping}
use Rattle.rx_graph.proofs.worklist.Task.sweep.Given as goal

abbrev pub invariant-sites : goal.invariant-sites
invariant-sites g l = Sweeping (g.F.Facts.rules l.self.facts.now) (g.met.F.Facts.lawful l.self.facts.now) (g.G.Leads.edges l.self.graph.now) l.down l.fn.rows l.rows l.fn.pending l.pending l.k l.grown
    × (g.F.Facts.rules l.self.facts.now).Fits l.scratch

use Rattle.rx_graph.proofs.Working.{Handing}
use Rattle.rx_graph.proofs.worklist.Task.spread.Given as goal

abbrev pub invariant-sites : goal.invariant-sites
invariant-sites g l = Handing (g.F.Facts.rules l.self.facts.now) (g.met.F.Facts.lawful l.self.facts.now) (g.G.Leads.edges l.self.graph.now) l.sites l.row l.fn.rows l.rows l.fn.pending l.pending l.k l.grown

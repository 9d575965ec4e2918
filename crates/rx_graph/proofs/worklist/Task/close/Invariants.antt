use Rattle.std.proofs.Common.{◌≡◌, ◌<◌, false, length}
use Rattle.rx_graph.specs.Worklist.{Stands, NoneNoted}
use Rattle.rx_graph.proofs.Working.{sweeps_left}
use Rattle.rx_graph.proofs.worklist.Task.close.Given as goal

abbrev pub invariant-sweeps : goal.invariant-sweeps
invariant-sweeps g l = Stands (g.F.Facts.rules l.self.facts.now) (g.G.Leads.edges l.self.graph.now) l.rows l.pending × (g.F.Facts.rules l.self.facts.now).Fits l.scratch
    × (l.grown ≡ false → NoneNoted (λ q. q < length l.rows) l.pending)

abbrev pub decreases-sweeps : goal.decreases-sweeps
decreases-sweeps g l = sweeps_left (g.F.Facts.rules l.self.facts.now) (g.met.F.Facts.lawful l.self.facts.now) (g.G.Leads.edges l.self.graph.now) l.rows l.grown

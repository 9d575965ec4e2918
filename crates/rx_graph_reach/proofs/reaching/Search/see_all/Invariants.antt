use Rattle.std.proofs.Common.{length, ◌*◌, ◌≤◌}
use Rattle.rx_graph_bits.specs.Rows.{holds}
use Rattle.rx_graph_reach.proofs.Seeing.{Adding}
use Rattle.rx_graph_reach.proofs.reaching.Search.see_all.Given as goal

abbrev pub invariant-sites : goal.invariant-sites
invariant-sites g l = Adding (length (g.G.Leads.edges l.self.graph.now)) (holds l.self.inside.now) l.sites l.k l.fn.seen l.fn.ahead l.seen l.ahead
    × (length (g.G.Leads.edges l.self.graph.now) ≤ 64 * length l.seen)

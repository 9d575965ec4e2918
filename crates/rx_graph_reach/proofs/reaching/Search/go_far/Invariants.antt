use Rattle.std.proofs.Common.{length, ◌*◌, ◌≤◌, ◌+◌, ℕ}
use Rattle.rx_graph_bits.specs.Rows.{holds}
use Rattle.rx_graph_reach.specs.Walking.{Stands, unseen}
use Rattle.rx_graph_reach.proofs.reaching.Search.go_far.Given as goal

abbrev pub invariant-sites : goal.invariant-sites
invariant-sites g l = ((first : ℕ) → Stands (g.G.Leads.edges l.self.graph.now) (holds l.self.inside.now) (holds l.self.stops.now) first l.fn.seen l.fn.ahead
    → Stands (g.G.Leads.edges l.self.graph.now) (holds l.self.inside.now) (holds l.self.stops.now) first l.seen l.ahead)
    × (length (g.G.Leads.edges l.self.graph.now) ≤ 64 * length l.seen)

abbrev pub decreases-sites : goal.decreases-sites
decreases-sites g l = length l.ahead + unseen (length (g.G.Leads.edges l.self.graph.now)) l.seen

use Rattle.std.proofs.Common.{length, subst, sym, ◌*◌, ◌≤◌}
use Rattle.rx_graph_bits.specs.Rows.{holds}
use Rattle.rx_graph_reach.specs.Walking.{Stands}
use Rattle.rx_graph_reach.proofs.Seeing.{goes_on}
use Rattle.rx_graph_reach.proofs.reaching.Search.go_far.Goals as goal

pub sites-preserved : goal.sites-preserved
sites-preserved g c = (
  λ first h. goes_on (g.G.Leads.edges c.args.self.now.graph.now) (holds c.args.self.now.inside.now) (holds c.args.self.now.stops.now) first c.in-Some.site c.sites.seen c.sites.ahead
      c.pop.new.self c.go_on.new.seen c.go_on.new.ahead c.in-Some.ensures c.in_ok-go_on.ensures (c.sites.invariant.0 first h),
  subst (λ k. length (g.G.Leads.edges c.args.self.now.graph.now) ≤ 64 * k) (sym c.in_ok-go_on.ensures.width) c.sites.invariant.1,
)

pub returns : goal.returns
returns g c first h = subst (λ a. Stands (g.G.Leads.edges c.args.self.now.graph.now) (holds c.args.self.now.inside.now) (holds c.args.self.now.stops.now) first c.sites.seen a)
    c.in_default.ensures.0 (c.sites.invariant.0 first h)

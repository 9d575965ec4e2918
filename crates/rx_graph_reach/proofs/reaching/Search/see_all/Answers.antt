use Rattle.std.proofs.Common.{length, subst, sym, ◌*◌, ◌≤◌}
use Rattle.rx_graph_bits.specs.Rows.{holds}
use Rattle.rx_graph_reach.proofs.Seeing.{adding_more, adding_done}
use Rattle.rx_graph_reach.proofs.reaching.Search.see_all.Goals as goal

pub sites-preserved : goal.sites-preserved
sites-preserved g c = (
  adding_more (length (g.G.Leads.edges c.args.self.now.graph.now)) (holds c.args.self.now.inside.now) c.args.sites.now c.sites.k c.args.seen.now c.args.ahead.now c.sites.seen c.sites.ahead
      c.see.new.seen c.see.new.ahead c.sites-test.true c.in_ok-see.ensures c.sites.invariant.0,
  subst (λ k. length (g.G.Leads.edges c.args.self.now.graph.now) ≤ 64 * k) (sym c.in_ok-see.ensures.width) c.sites.invariant.1,
)

pub returns : goal.returns
returns g c = adding_done (length (g.G.Leads.edges c.args.self.now.graph.now)) (holds c.args.self.now.inside.now) c.args.sites.now c.sites.k c.args.seen.now c.args.ahead.now c.sites.seen c.sites.ahead
    c.sites-test.false c.sites.invariant.0

use Rattle.std.proofs.Common.{length, subst, sym, ap, ◌∙◌, []}
use Rattle.rx_graph_bits.specs.Rows.{holds, words}
use Rattle.rx_graph_reach.specs.Walking.{Added}
use Rattle.rx_graph_reach.proofs.Seeing.{begins, ends, wide_enough}
use Rattle.rx_graph_reach.proofs.reaching.reached.Goals as goal

pub returns : goal.returns
returns g c = ends (g.G.Leads.edges c.args.graph.now) (holds c.args.inside.now) (holds c.args.stops.now) c.args.first c.go_far.new.seen
    (c.in_ok-go_far.ensures c.args.first
    (begins (g.G.Leads.edges c.args.graph.now) (holds c.args.inside.now) (holds c.args.stops.now) c.args.first c.in_ok-seen.seen c.see_all.new.seen c.see_all.new.ahead
    (wide_enough (length (g.G.Leads.edges c.args.graph.now)) c.in_ok-seen.seen (c.in_ok-seen.ensures.width ∙ ap words c.count.ensures)) c.in_ok-seen.ensures.empty
    (subst (λ s. Added (length (g.G.Leads.edges c.args.graph.now)) (holds c.args.inside.now) s c.in_ok-seen.seen [] c.see_all.new.seen c.see_all.new.ahead) (sym c.targets.ensures)
    (subst (λ a. Added (length (g.G.Leads.edges c.args.graph.now)) (holds c.args.inside.now) c.targets.result.now c.in_ok-seen.seen a c.see_all.new.seen c.see_all.new.ahead) c.new-ahead.ensures
    c.in_ok-see_all.ensures))))

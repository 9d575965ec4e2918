use Rattle.std.proofs.Common.{length, subst, sym, ◌∙◌, ◌<◌}
use Rattle.rx_graph_bits.specs.Rows.{holds}
use Rattle.rx_graph_reach.proofs.Seeing.{one_added, after_push}
use Rattle.rx_graph_reach.proofs.reaching.Search.see.Goals as goal

pub returns-in_ok-push : goal.returns-in_ok-push
returns-in_ok-push g c = after_push (length (g.G.Leads.edges c.args.self.now.graph.now)) (holds c.args.self.now.inside.now) c.args.site c.args.seen.now c.args.ahead.now c.push.new.self c.insert.new.self
    c.in_ok-push.ensures.ok
    (one_added (length (g.G.Leads.edges c.args.self.now.graph.now)) (holds c.args.self.now.inside.now) c.args.site c.args.seen.now c.args.ahead.now c.insert.new.self
    c.requires (subst (λ n. c.args.site < n) c.count.ensures c.if-at-count.true) (sym c.holds.ensures ∙ c.if-holds.true) (sym c.holds-then-holds.ensures ∙ c.if-not-holds.true) c.insert.ensures.inserted)

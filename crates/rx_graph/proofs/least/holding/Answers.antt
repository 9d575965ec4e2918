use Rattle.rx_graph.proofs.Telling.{tells}
use Rattle.rx_graph.proofs.least.holding.Goals as goal

pub returns : goal.returns
returns g c = tells (g.G.Leads.edges c.args.graph.now) c.args.effects.now c.args.start.now c.args.bound c.in_ok-rows.rows c.in_ok-rows.ensures

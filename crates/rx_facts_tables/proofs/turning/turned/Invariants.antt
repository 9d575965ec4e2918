use Rattle.rx_facts_tables.proofs.Turns.{TurnedTo}
use Rattle.rx_facts_tables.proofs.turning.turned.Given as goal

abbrev pub invariant-loop-p : goal.invariant-loop-p
invariant-loop-p g l = TurnedTo (g.G.Leads.edges l.graph) l.back.items l.p

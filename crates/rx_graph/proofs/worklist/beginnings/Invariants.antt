use Rattle.rx_graph.specs.Worklist.{Begun}
use Rattle.rx_graph.proofs.worklist.beginnings.Given as goal

abbrev pub invariant-rows : goal.invariant-rows
invariant-rows g l = Begun (g.F.Facts.rules l.facts) l.site l.all.items

use Rattle.std.proofs.Common.{◌≡◌, drop}
use Rattle.rx_graph.specs.Facts.{has}
use Rattle.rx_graph.proofs.few.has.Given as goal

abbrev pub invariant-loop-one : goal.invariant-loop-one
invariant-loop-one l = has (drop l.one-index l.numbers) l.number ≡ has l.numbers l.number

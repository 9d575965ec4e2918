use Rattle.std.proofs.Common.{◌≡◌, ℕ, ◌<◌, true, false, Some, slice_get}
use Rattle.rx_core.specs.declared.types.Place.{Place}
use Rattle.rx_lower_walks.specs.PlainFlow.{plain-Action}
use Rattle.rx_graph.specs.Tables.{at}
use Rattle.rx_facts_tables.specs.Wholes.{enters}
use Rattle.rx_facts_tables.proofs.judging.enter.Given as goal

abbrev pub invariant-loop-k : goal.invariant-loop-k
invariant-loop-k l = (j : ℕ) (q : Place) → slice_get l.setup.watched.now j ≡ Some q → j < l.k → enters q.var q.steps (plain-Action l.action).act ≡ true → at l.facts.lost.rows l.site j ≡ false

use Rattle.rx_lower_walks.specs.PlainFlow.{plain-Act}
use Rattle.rx_facts_tables.specs.Wholes.{regains}
use Rattle.rx_facts_tables.proofs.Numbers.{Picked}
use Rattle.rx_facts_tables.proofs.acts.regained.Given as goal

abbrev pub invariant-loop-k : goal.invariant-loop-k
invariant-loop-k l = Picked l.all (λ q. regains q.var q.steps (plain-Act l.act)) l.watched l.k

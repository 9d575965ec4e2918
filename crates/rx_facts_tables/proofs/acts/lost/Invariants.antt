use Rattle.rx_lower_walks.specs.PlainFlow.{plain-Act}
use Rattle.rx_facts_tables.specs.Wholes.{loses}
use Rattle.rx_facts_tables.proofs.Numbers.{Picked}
use Rattle.rx_facts_tables.proofs.acts.lost.Given as goal

abbrev pub invariant-loop-k : goal.invariant-loop-k
invariant-loop-k l = Picked l.all (λ q. loses q.var q.steps (plain-Act l.act)) l.watched l.k

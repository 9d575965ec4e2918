use Rattle.rx_facts_tables.proofs.Numbers.{Between}
use Rattle.rx_exits.proofs.acts.numbers.Given as goal

abbrev pub invariant-loop-n : goal.invariant-loop-n
invariant-loop-n l = Between l.all l.fn.range.first l.n

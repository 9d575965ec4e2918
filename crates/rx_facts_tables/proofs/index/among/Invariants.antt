use Rattle.rx_facts_tables.proofs.Numbering.{Passed}
use Rattle.rx_facts_tables.proofs.index.among.Given as goal

abbrev pub invariant-loop-number : goal.invariant-loop-number
invariant-loop-number l = Passed l.roots l.numbers l.root l.number-index

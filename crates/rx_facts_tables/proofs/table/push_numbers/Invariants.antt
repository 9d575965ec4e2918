use Rattle.rx_facts_tables.proofs.Effecting.{SoFar}
use Rattle.rx_facts_tables.proofs.table.push_numbers.Given as goal

abbrev pub invariant-loop-root : goal.invariant-loop-root
invariant-loop-root l = SoFar l.index.roots l.fn.all l.roots l.all l.root-index

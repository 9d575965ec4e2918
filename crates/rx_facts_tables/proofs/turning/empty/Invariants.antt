use Rattle.std.proofs.Common.{◌≡◌, replicate, []}
use Rattle.rx_facts_tables.proofs.turning.empty.Given as goal

abbrev pub invariant-loop-list : goal.invariant-loop-list
invariant-loop-list l = l.all.items ≡ replicate l._list []

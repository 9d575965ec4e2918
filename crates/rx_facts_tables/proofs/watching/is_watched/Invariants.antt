use Rattle.rx_facts_tables.proofs.watching.is_watched.Given as goal

abbrev pub invariant-loop-place : goal.invariant-loop-place
invariant-loop-place l = Unit {0}

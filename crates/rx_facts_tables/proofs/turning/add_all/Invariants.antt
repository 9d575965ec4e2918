use Rattle.rx_facts_tables.proofs.Turns.{Joining}
use Rattle.rx_facts_tables.proofs.turning.add_all.Given as goal

abbrev pub invariant-loop-place : goal.invariant-loop-place
invariant-loop-place l = Joining l.fn.lists l.lists l.places l.number l.place-index

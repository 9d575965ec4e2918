use Rattle.rx_facts_tables.proofs.Each.{SoFar}
use Rattle.rx_exits.proofs.Looking.{Below}
use Rattle.rx_exits.proofs.acts.past_all.Given as goal

abbrev pub invariant-loop-i : goal.invariant-loop-i
invariant-loop-i l = SoFar (λ i s. Below l.least s) l.sites l.i

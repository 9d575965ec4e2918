use Rattle.rx_cert_rules.proofs.Points.{Tabling}
use Rattle.rx_cert_rules.proofs.ending.put_all.Given as goal

abbrev pub invariant-pairs : goal.invariant-pairs
invariant-pairs l = Tabling l.pairs l.own l.rows l.k

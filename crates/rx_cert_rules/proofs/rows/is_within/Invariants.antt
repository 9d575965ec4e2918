use Rattle.std.proofs.Common.{◌≡◌, true}
use Rattle.rx_graph.specs.Tables.{at}
use Rattle.rx_cert_rules.proofs.Telling.{Below}
use Rattle.rx_cert_rules.proofs.rows.is_within.Given as goal

abbrev pub invariant-numbers : goal.invariant-numbers
invariant-numbers l = Below (λ i. at l.rows l.short i ≡ true → at l.rows l.long i ≡ true) l.i

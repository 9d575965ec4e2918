use Rattle.std.proofs.Common.{◌≡◌, ◌+◌, true}
use Rattle.rx_graph.specs.Tables.{at}
use Rattle.rx_cert_rules.proofs.Telling.{Below}
use Rattle.rx_cert_rules.proofs.ending.ends_in.Given as goal

abbrev pub invariant-ends : goal.invariant-ends
invariant-ends l = Below (λ k. at l.rows l.lifetime (l.sites + k) ≡ true → at l.table l.lifetime k ≡ true) l.end

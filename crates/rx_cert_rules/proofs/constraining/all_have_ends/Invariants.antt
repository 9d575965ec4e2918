use Rattle.std.proofs.Common.{◌≡◌, ◌+◌, true}
use Rattle.rx_graph.specs.Tables.{at}
use Rattle.rx_cert_rules.proofs.Telling.{Below}
use Rattle.rx_cert_rules.proofs.constraining.all_have_ends.Given as goal

abbrev pub invariant-members : goal.invariant-members
invariant-members l = Below (λ k. at l.rows k (l.sites + k) ≡ true) l.lifetime

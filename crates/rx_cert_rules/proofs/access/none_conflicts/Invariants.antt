use Rattle.std.proofs.Common.{map, length}
use Rattle.rx_cert_rules.specs.Written.{inside}
use Rattle.rx_lower_walks.specs.PlainSite.{plain-Site}
use Rattle.rx_cert_rules.specs.Parts.{Quiet}
use Rattle.rx_cert_rules.proofs.Telling.{Below}
use Rattle.rx_cert_rules.proofs.Scopes.{OfLoan}
use Rattle.rx_cert_rules.proofs.access.none_conflicts.Given as goal

abbrev pub invariant-loans : goal.invariant-loans
invariant-loans l = Below (OfLoan l.loans (λ i m. Quiet (map plain-Site l.sites) m (inside l.scopes (length l.sites) i) (length l.sites))) l.k

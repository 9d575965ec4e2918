use Rattle.std.proofs.Common.{map}
use Rattle.rx_cert_rules.specs.Written.{inside}
use Rattle.rx_lower_walks.specs.PlainSite.{plain-Site}
use Rattle.rx_cert_rules.specs.Rules.{Follows}
use Rattle.rx_cert_rules.proofs.Telling.{Below}
use Rattle.rx_cert_rules.proofs.Scopes.{OfLoan}
use Rattle.rx_cert_rules.proofs.following.all_follow.Given as goal

abbrev pub invariant-loans : goal.invariant-loans
invariant-loans l = Below (OfLoan l.loans (λ i m. Follows (map plain-Site l.sites) (inside l.rows.regions.now l.rows.sites m.region) m (inside l.rows.scopes.now l.rows.sites i))) l.k

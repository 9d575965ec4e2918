use Rattle.std.proofs.Common.{map, length}
use Rattle.rx_cert_rules.specs.Written.{inside}
use Rattle.rx_lower_walks.specs.PlainSite.{plain-Site}
use Rattle.rx_loan.specs.PlainOf.{plain-Loan}
use Rattle.rx_cert_rules.specs.Parts.{QuietAt}
use Rattle.rx_cert_rules.proofs.Telling.{Below}
use Rattle.rx_cert_rules.proofs.access.is_quiet.Given as goal

abbrev pub invariant-sites : goal.invariant-sites
invariant-sites l = Below (QuietAt (map plain-Site l.sites) (plain-Loan l.loan) (inside l.scopes (length l.sites) l.number)) l.site

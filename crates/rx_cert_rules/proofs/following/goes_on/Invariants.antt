use Rattle.std.proofs.Common.{map}
use Rattle.rx_cert_rules.specs.Written.{inside}
use Rattle.rx_lower_walks.specs.PlainFlow.{plain-Place}
use Rattle.rx_lower_walks.specs.PlainSite.{plain-Site}
use Rattle.rx_cert_rules.specs.Parts.{GoesOnAt}
use Rattle.rx_cert_rules.proofs.Telling.{Below}
use Rattle.rx_cert_rules.proofs.following.goes_on.Given as goal

abbrev pub invariant-sites : goal.invariant-sites
invariant-sites l = Below (GoesOnAt (map plain-Site l.sites) (inside l.rows.regions.now l.rows.sites l.loan.region) (plain-Place l.loan.place) (inside l.rows.scopes.now l.rows.sites l.number)) l.site

use Rattle.std.proofs.Common.{map, length}
use Rattle.rx_lower_walks.specs.PlainSite.{plain-Site}
use Rattle.rx_loan.specs.PlainOf.{plain-Loan}
use Rattle.rx_cert_rules.specs.Parts.{QuietAt}
use Rattle.rx_cert_rules.specs.Written.{inside}
use Rattle.rx_cert_rules.proofs.Telling.{one_more}
use Rattle.rx_cert_rules.proofs.access.is_quiet.Goals as goal

pub sites-preserved : goal.sites-preserved
sites-preserved c =
    one_more (QuietAt (map plain-Site c.args.sites.now) (plain-Loan c.args.loan.now) (inside c.args.scopes.now (length c.args.sites.now) c.args.number))
    c.sites.site (c.is_quiet_at.ensures.0 c.if-not-is_quiet_at.false) c.sites.invariant

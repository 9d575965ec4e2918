use Rattle.std.proofs.Common.{map}
use Rattle.rx_lower_walks.specs.PlainFlow.{plain-Place}
use Rattle.rx_lower_walks.specs.PlainSite.{plain-Site}
use Rattle.rx_cert_rules.specs.Parts.{GoesOnAt}
use Rattle.rx_cert_rules.specs.Written.{inside}
use Rattle.rx_cert_rules.proofs.Telling.{one_more}
use Rattle.rx_cert_rules.proofs.following.goes_on.Goals as goal

pub sites-preserved : goal.sites-preserved
sites-preserved c =
    let g = map plain-Site c.args.sites.now in
    let I = inside c.args.rows.now.regions.now c.args.rows.now.sites c.args.loan.now.region in
    let S = inside c.args.rows.now.scopes.now c.args.rows.now.sites c.args.number in
    one_more (GoesOnAt g I (plain-Place c.args.loan.now.place) S) c.sites.site (c.goes_on_at.ensures.0 c.if-not-goes_on_at.false) c.sites.invariant

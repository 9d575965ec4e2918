use Rattle.std.proofs.Common.{map, length, get_or, sym, ◌∙◌, true≢false, refl}
use Rattle.rx_lower_walks.specs.PlainSite.{plain-Site}
use Rattle.rx_facts_tables.proofs.Each.{site_there}
use Rattle.rx_loan.specs.PlainOf.{plain-Loan}
use Rattle.rx_cert_rules.specs.Parts.{QuietAt}
use Rattle.rx_cert_rules.specs.Written.{inside}
use Rattle.rx_cert_rules.proofs.Telling.{holds, tells_not}
use Rattle.rx_cert_rules.proofs.Scopes.{quiet_at}
use Rattle.rx_cert_rules.proofs.access.is_quiet_at.Goals as goal

pub returns-then-not-has_site : goal.returns-then-not-has_site
returns-then-not-has_site c =
    holds (QuietAt (map plain-Site c.args.sites.now) (plain-Loan c.args.loan.now) (inside c.args.scopes.now (length c.args.sites.now) c.args.number) c.args.site)
    (λ s at_p w. absurd (true≢false (sym w ∙ (sym c.has_site.ensures ∙ c.if-not-has_site.true))))

pub returns : goal.returns
returns c =
    let g = map plain-Site c.args.sites.now in
    let l = plain-Loan c.args.loan.now in
    let S = inside c.args.scopes.now (length c.args.sites.now) c.args.number in
    let x = get_or c.args.sites.now c.args.site c.index-sites-site.result in
    let at_p = site_there c.args.sites.now c.args.site x c.index-sites-site.result c.requires refl in
    tells_not (QuietAt g l S c.args.site) c.acts_against.result
    (λ e. quiet_at g l S c.args.site (plain-Site x) at_p (λ w. sym c.acts_against.ensures ∙ e))
    (λ q. c.acts_against.ensures ∙ q (plain-Site x) at_p (sym c.has_site.ensures ∙ c.if-not-has_site.false))

use Rattle.std.proofs.Common.{ℕ, List, Option, map, length, subst}
use Rattle.rx_lower_walks.specs.PlainSite.{plain-Site}
use Rattle.rx_lower_lifetimes.specs.PlainOwn.{plain-Own}
use Rattle.rx_lower_lifetimes.specs.declared.numbering.Own.{Own}
use Rattle.rx_region.specs.PlainContext.{plain-Given}
use Rattle.rx_loan.specs.Loans.{loans_of}
use Rattle.rx_cert_rules.specs.Verdicts.{OfLifetimes, OfLoans}
use Rattle.rx_cert_rules.specs.Written.{written, inside}
use Rattle.rx_cert_rules.proofs.Verdict.{of_lifetimes, of_loans}
use Rattle.rx_cert_rules.proofs.judging.first_broken.Goals as goal

pub returns-in-Some : goal.returns-in-Some
returns-in-Some c lives named =
    let C = plain-Given c.args.given.now in let g = map plain-Site c.args.sites.now in
    let R = written (length c.args.sites.now) c.args.given.now.lifetimes.now.own c.args.regions.now in
    let W = inside c.args.scopes.now (length c.args.sites.now) in
    of_lifetimes C g R W c.in-Some.rule (subst (λ (o : Option ℕ). OfLifetimes C g R o) c.in-Some.is (c.in_ok-rule.ensures lives named))

pub returns-in_ok-found-in-None : goal.returns-in_ok-found-in-None
returns-in_ok-found-in-None c lives named =
    let C = plain-Given c.args.given.now in let g = map plain-Site c.args.sites.now in
    let R = written (length c.args.sites.now) c.args.given.now.lifetimes.now.own c.args.regions.now in
    let W = inside c.args.scopes.now (length c.args.sites.now) in
    of_loans C g R W c.in_ok-found-in-None.found (subst (λ (o : Option ℕ). OfLifetimes C g R o) c.in-None.is (c.in_ok-rule.ensures lives named))
    (subst (λ (os : List Own). OfLoans g (inside c.args.regions.now (length c.args.sites.now)) (loans_of g (map plain-Own os)) W c.in_ok-found-in-None.found)
    c.as_slice.ensures c.in_ok-found-in-None.ensures)

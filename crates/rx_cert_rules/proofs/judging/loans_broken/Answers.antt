use Rattle.std.proofs.Common.{List, map, ap, ◌∙◌, subst}
use Rattle.rx_lower_walks.specs.PlainSite.{plain-Site}
use Rattle.rx_loan.specs.Accesses.{Loan}
use Rattle.rx_loan.specs.PlainOf.{plain-Loan}
use Rattle.rx_loan.specs.declared.accesses.Loan.{Loan as LoanOf}
use Rattle.rx_cert_rules.specs.Verdicts.{OfLoans}
use Rattle.rx_cert_rules.specs.Written.{inside}
use Rattle.rx_cert_rules.proofs.judging.loans_broken.Goals as goal

pub returns : goal.returns
returns c =
    let R = inside c.args.rows.now.regions.now c.args.rows.now.sites in
    let W = inside c.args.rows.now.scopes.now c.args.rows.now.sites in
    subst (λ (ls : List Loan). OfLoans (map plain-Site c.args.sites.now) R ls W c.rows_broken.result)
    (ap (λ (l : List LoanOf). map plain-Loan l) c.as_slice.ensures ∙ c.in_ok-loans.ensures) c.rows_broken.ensures

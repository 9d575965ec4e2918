use Rattle.std.proofs.Common.{List, map, subst}
use Rattle.rx_graph.specs.Tables.{at}
use Rattle.rx_lower_walks.specs.PlainSite.{plain-Site}
use Rattle.rx_lower_lifetimes.specs.Numbered.{Own}
use Rattle.rx_lower_lifetimes.specs.PlainOwn.{plain-Own}
use Rattle.rx_loan.specs.Tables.{IsLoanTable}
use Rattle.rx_loan.proofs.Found.{accepted, forbidden}
use Rattle.rx_loan.proofs.judging.check_loans.Goals as goal

pub returns-in-Ok-legal : goal.returns-in-Ok-legal
returns-in-Ok-legal c C owned answer =
    let g = map plain-Site c.args.sites.now in
    let table = subst (λ (os : List Own). IsLoanTable g os (at c.args.regions.now.rows) c.in-Ok.loans) owned
    (subst (λ rows. IsLoanTable g (map plain-Own c.args.owned.now) (at rows) c.in-Ok.loans) c.rows.ensures c.in-Ok.ensures) in
    accepted C g c.args.regions.now c.in-Ok.loans answer.2 answer.0 answer.1 table
    (c.in-Ok-legal.ensures C.lifetimes.owned (at c.args.regions.now.rows) table)

pub returns-in-Err-legal : goal.returns-in-Err-legal
returns-in-Err-legal c C owned answer =
    let g = map plain-Site c.args.sites.now in
    let table = subst (λ (os : List Own). IsLoanTable g os (at c.args.regions.now.rows) c.in-Ok.loans) owned
    (subst (λ rows. IsLoanTable g (map plain-Own c.args.owned.now) (at rows) c.in-Ok.loans) c.rows.ensures c.in-Ok.ensures) in
    forbidden C g c.args.regions.now c.in-Err-legal.found.borrow c.in-Err-legal.found.access answer.2 answer.0 answer.1
    (c.in-Err-legal.ensures C.lifetimes.owned (at c.args.regions.now.rows) table)

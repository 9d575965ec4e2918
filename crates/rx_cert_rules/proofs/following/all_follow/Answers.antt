use Rattle.std.proofs.Common.{ℕ, map, arith}
use Rattle.rx_lower_walks.specs.PlainSite.{plain-Site}
use Rattle.rx_loan.specs.Accesses.{Loan}
use Rattle.rx_loan.specs.PlainOf.{plain-Loan}
use Rattle.rx_cert_rules.specs.Rules.{Follows, LoansFollow}
use Rattle.rx_cert_rules.specs.Written.{inside}
use Rattle.rx_cert_rules.proofs.Telling.{holds, fails, is_not, one_more}
use Rattle.rx_cert_rules.proofs.Scopes.{OfLoan, of_loan, all_loans, loan_there}
use Rattle.rx_cert_rules.proofs.following.all_follow.Goals as goal

pub returns-then-not-follows : goal.returns-then-not-follows
returns-then-not-follows c =
    let g = map plain-Site c.args.sites.now in
    let R = inside c.args.rows.now.regions.now c.args.rows.now.sites in
    let W = inside c.args.rows.now.scopes.now c.args.rows.now.sites in
    let l = c.index-loans-k.result in
    fails (LoansFollow g R (map plain-Loan c.args.loans.now) W) (λ all. is_not (Follows g (R l.region) (plain-Loan l) (W c.loans.k)) c.follows.result
    c.follows.ensures c.if-not-follows.true (all c.loans.k (plain-Loan l) (loan_there c.args.loans.now c.loans.k l c.loans-test.true c.index-loans-k.is)))

pub loans-preserved : goal.loans-preserved
loans-preserved c =
    let g = map plain-Site c.args.sites.now in
    let R = inside c.args.rows.now.regions.now c.args.rows.now.sites in
    let W = inside c.args.rows.now.scopes.now c.args.rows.now.sites in
    let Q = λ (i : ℕ) (m : Loan). Follows g (R m.region) m (W i) in
    one_more (OfLoan c.args.loans.now Q) c.loans.k (of_loan c.args.loans.now Q c.loans.k c.index-loans-k.result c.loans-test.true c.index-loans-k.is
    (c.follows.ensures.0 c.if-not-follows.false)) c.loans.invariant

pub returns : goal.returns
returns c =
    let g = map plain-Site c.args.sites.now in
    let R = inside c.args.rows.now.regions.now c.args.rows.now.sites in
    let W = inside c.args.rows.now.scopes.now c.args.rows.now.sites in
    let Q = λ (i : ℕ) (m : Loan). Follows g (R m.region) m (W i) in
    holds (LoansFollow g R (map plain-Loan c.args.loans.now) W)
    (all_loans c.args.loans.now Q (λ k h. c.loans.invariant k (omega (arith, h, c.loans-test.false))))

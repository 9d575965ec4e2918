use Rattle.std.proofs.Common.{ℕ, ◌≤◌, map, length, subst, arith}
use Rattle.std.proofs.lemmas.List.{length-map}
use Rattle.rx_lower_walks.specs.PlainSite.{plain-Site}
use Rattle.rx_loan.specs.Accesses.{Loan}
use Rattle.rx_loan.specs.PlainOf.{plain-Loan}
use Rattle.rx_cert_rules.specs.Parts.{Quiet}
use Rattle.rx_cert_rules.specs.Rules.{NoneConflicts}
use Rattle.rx_cert_rules.specs.Written.{inside}
use Rattle.rx_cert_rules.proofs.Telling.{holds, fails, is_not, one_more}
use Rattle.rx_cert_rules.proofs.Scopes.{OfLoan, of_loan, all_loans, loan_there, quiet_all, quiet_one}
use Rattle.rx_cert_rules.proofs.access.none_conflicts.Goals as goal

pub returns-then-not-is_quiet : goal.returns-then-not-is_quiet
returns-then-not-is_quiet c =
    let g = map plain-Site c.args.sites.now in
    let n = length c.args.sites.now in
    let W = inside c.args.scopes.now n in
    let l = c.index-loans-k.result in
    let ls = map plain-Loan c.args.loans.now in
    fails (NoneConflicts g ls W) (λ none. is_not (Quiet g (plain-Loan l) (W c.loans.k) n) c.is_quiet.result c.is_quiet.ensures c.if-not-is_quiet.true
    (quiet_one g W ls none c.loans.k n (plain-Loan l) (loan_there c.args.loans.now c.loans.k l c.loans-test.true c.index-loans-k.is)))

pub loans-preserved : goal.loans-preserved
loans-preserved c =
    let g = map plain-Site c.args.sites.now in
    let n = length c.args.sites.now in
    let Q = λ (i : ℕ) (m : Loan). Quiet g m (inside c.args.scopes.now n i) n in
    one_more (OfLoan c.args.loans.now Q) c.loans.k (of_loan c.args.loans.now Q c.loans.k c.index-loans-k.result c.loans-test.true c.index-loans-k.is
    (c.is_quiet.ensures.0 c.if-not-is_quiet.false)) c.loans.invariant

pub returns : goal.returns
returns c =
    let g = map plain-Site c.args.sites.now in
    let n = length c.args.sites.now in
    let W = inside c.args.scopes.now n in
    let Q = λ (i : ℕ) (m : Loan). Quiet g m (W i) n in
    let ls = map plain-Loan c.args.loans.now in
    holds (NoneConflicts g ls W) (quiet_all g W ls n (subst (λ (k : ℕ). length g ≤ k) (length-map c.args.sites.now plain-Site) (omega arith))
    (all_loans c.args.loans.now Q (λ k h. c.loans.invariant k (omega (arith, h, c.loans-test.false)))))

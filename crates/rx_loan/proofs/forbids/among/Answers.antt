use Rattle.std.proofs.Common.{◌≡◌, ◌&&◌, true, false, sym, ap, ◌∙◌, get_or, map, length, slice_get, subst, ◌≤◌}
use Rattle.rx_graph.specs.Tables.{at}
use Rattle.rx_loan.specs.Accesses.{conflicts}
use Rattle.rx_loan.specs.PlainOf.{plain-Access, plain-Loan}
use Rattle.rx_loan.proofs.Forbidding.{none_next, none_at_all, loan_there, any_default, split}
use Rattle.rx_loan.proofs.forbids.among.Goals as goal

pub returns-then-forbids : goal.returns-then-forbids
returns-then-forbids c =
    let loans = c.as_slice-loans.result.now in let loan = get_or loans c.loans.k c.index-loans-k.result in
    let both = split (at c.args.table.now.rows.items c.loans.k c.args.site) (conflicts (plain-Access c.args.access.now) (plain-Loan loan)) (subst (λ l. (at c.args.table.now.rows.items c.loans.k c.args.site && conflicts (plain-Access c.args.access.now) (plain-Loan l)) ≡ true) c.index-loans-k.is
    (sym c.forbids.ensures ∙ c.if-forbids.true)) in (
      c.loans.k,
      plain-Loan loan,
      ap (λ ls. slice_get (map plain-Loan ls) c.loans.k) (sym c.as_slice-loans.ensures) ∙ loan_there loans c.loans.k c.index-loans-k.result c.loans-test.true,
      both.0,
      both.1,
      ap (λ l. l.site) (any_default loans c.loans.k c.index-loans-k.result c.index-loans-k-then-forbids.result c.loans-test.true),
    )

pub loans-preserved : goal.loans-preserved
loans-preserved c =
    let loans = c.as_slice-loans.result.now in let loan = get_or loans c.loans.k c.index-loans-k.result in
    none_next c.args.table.now (conflicts (plain-Access c.args.access.now)) c.args.site c.loans.k (plain-Loan loan)
    (ap (λ ls. slice_get (map plain-Loan ls) c.loans.k) (sym c.as_slice-loans.ensures) ∙ loan_there loans c.loans.k c.index-loans-k.result c.loans-test.true)
    (subst (λ l. (at c.args.table.now.rows.items c.loans.k c.args.site && conflicts (plain-Access c.args.access.now) (plain-Loan l)) ≡ false) c.index-loans-k.is
    (sym c.forbids.ensures ∙ c.if-forbids.false)) c.loans.invariant

pub returns : goal.returns
returns c = none_at_all c.args.table.now (conflicts (plain-Access c.args.access.now)) c.args.site c.loans.k
    (subst (λ ls. length ls ≤ c.loans.k) c.as_slice-loans.ensures c.loans-test.false) c.loans.invariant

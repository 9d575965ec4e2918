use Rattle.std.proofs.Common.{ℕ, List, map, subst, sym, ◌+◌}
use Rattle.rx_graph.specs.Tables.{at}
use Rattle.rx_lower_walks.specs.PlainSite.{plain-Site}
use Rattle.rx_loan.specs.PlainOf.{plain-Loan}
use Rattle.rx_loan.specs.Tables.{AllScoped}
use Rattle.rx_loan.proofs.Scoping.{scoped_next, loan_there}
use Rattle.rx_loan.proofs.table.scopes.Goals as goal

pub loans-preserved : goal.loans-preserved
loans-preserved c =
    subst (λ (l : List (List ℕ)). AllScoped (map plain-Site c.args.sites.now) (at c.args.regions.now) (map plain-Loan c.args.loans.now) l (c.loans.k + 1)) (sym c.in_ok-push.ensures.items)
    (scoped_next (map plain-Site c.args.sites.now) (at c.args.regions.now) (map plain-Loan c.args.loans.now) c.loans.rows.items c.loans.k (plain-Loan c.index-loans-k.result) c.in_ok-row.row
    (loan_there c.args.loans.now c.loans.k c.index-loans-k.result c.loans-test.true c.index-loans-k.is) c.in_ok-row.ensures c.loans.invariant)

use Rattle.std.proofs.Common.{◌≡◌, ◌↔◌, true, subst, sym}
use Rattle.rx_loan.specs.Loans.{InScope}
use Rattle.rx_loan.proofs.table.LoanTable.in_scope.Goals as goal

pub returns-clause-exact : goal.returns-clause-exact
returns-clause-exact c g os R l table here within =
    subst (λ b. (b ≡ true) ↔ InScope g R l c.args.site) (sym c.row_holds.ensures) (table.exact c.args.loan c.args.site l here within)

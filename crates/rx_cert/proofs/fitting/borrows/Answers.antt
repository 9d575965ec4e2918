use Rattle.std.proofs.Common.{List, map, ap, ◌∙◌}
use Rattle.rx_loan.specs.Accesses.{Loan}
use Rattle.rx_loan.specs.declared.accesses.Loan.{Loan as LoanOf}
use Rattle.rx_cert.proofs.Shaping.{sites_plain}
use Rattle.rx_cert.proofs.fitting.borrows.Goals as goal

pub returns : goal.returns
returns c = c.in_ok-sites.ensures ∙ ap (λ (ls : List LoanOf). map (λ (x : LoanOf). x.site) ls) c.as_slice.ensures
    ∙ sites_plain c.in_ok-loans.loans ∙ ap (λ (ls : List Loan). map (λ (l : Loan). l.site) ls) c.in_ok-loans.ensures

use Rattle.std.proofs.Common.{ℕ, Bool, List, map}
use Rattle.rx_lower_walks.specs.PlainSite.{plain-Site}
use Rattle.rx_lower_lifetimes.specs.Numbered.{Own}
use Rattle.rx_loan.specs.Loans.{loans_of}
use Rattle.rx_loan.specs.Tables.{IsLoanTable}
use Rattle.rx_loan.proofs.Forbidding.{LegalBefore}
use Rattle.rx_loan.proofs.forbids.legal.Given as goal

abbrev pub invariant-sites : goal.invariant-sites
invariant-sites l = (os : List Own) (R : ℕ → ℕ → Bool) → IsLoanTable (map plain-Site l.sites) os R l.table
    → LegalBefore (map plain-Site l.sites) R (loans_of (map plain-Site l.sites) os) l.k

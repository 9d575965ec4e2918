-- What is answered of a function's loans, by the least sets of its lifetimes.
use Rattle.std.specs.Prelude.{ℕ, List, Result, Ok, Err}
use Rattle.rx_lower_walks.specs.Graph.{Site}
use Rattle.rx_region.specs.Constraints.{Context}
use Rattle.rx_region.specs.Solutions.{Sets, AreLeast}
use Rattle.rx_region.specs.Known.{Missing}
use Rattle.rx_loan.specs.Loans.{loans_of}
use Rattle.rx_loan.specs.Tables.{IsLoanTable, IsMet}
use Rattle.rx_loan.specs.declared.table.LoanTable.{LoanTable}
use Rattle.rx_loan.specs.Accepted.{at_sites, IsAccepted}
use Rattle.rx_loan.specs.declared.judging.BorrowFault.{BorrowFault}
use Rattle.rx_loan.specs.declared.judging.BorrowFault.TheVariants as fault

-- the function is accepted, and the table says where each loan is in scope under the least sets
pub record AreLoans (C : Context) (g : List Site) (t : LoanTable) : Type 0 where
  pub accepted : IsAccepted C g
  pub exact : (R : Sets) → AreLeast C g R → IsLoanTable g C.lifetimes.owned (at_sites R) t

-- no pair is missing; under the least sets a loan of this borrow is in scope at a site that accesses what it forbids
pub record IsForbidden (C : Context) (g : List Site) (b p : ℕ) : Type 0 where
  pub none_missing : (l k : ℕ) → Missing C g l k → ⊥
  pub sets : Sets
  pub least : AreLeast C g sets
  pub met : IsMet g (at_sites sets) (loans_of g C.lifetimes.owned) b p

abbrev pub Judges : Context → List Site → Result LoanTable BorrowFault → Type 0
Judges C g (Ok t) = AreLoans C g t
Judges C g (Err (fault.Loan b p)) = IsForbidden C g b p
Judges C g (Err fault.OutOfMemory) = Unit {0}

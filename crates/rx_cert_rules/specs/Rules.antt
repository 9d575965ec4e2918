-- The four rules that sets of a certificate keep: with them the sets show that a function's lifetimes and loans are accepted, whoever
-- made them (RFC 2094, "Solving constraints", "Named lifetimes", "Loans in scope", "Access legality").
use Rattle.std.specs.Prelude.{◌≡◌, ℕ, Bool, true, false, List, Some, slice_get}
use Rattle.rx_graph.specs.Facts.{has, targets}
use Rattle.rx_lower_walks.specs.Graph.{Site, site_at}
use Rattle.rx_facts_tables.specs.Along.{edges_of}
use Rattle.rx_region.specs.Constraints.{Context}
use Rattle.rx_region.specs.Solutions.{Sets, Solution}
use Rattle.rx_region.specs.Tables.{Keeps}
use Rattle.rx_loan.specs.Accesses.{Loan, acts_against}
use Rattle.rx_loan.specs.Loans.{loans_of, ends_at}
use Rattle.rx_loan.specs.Accepted.{at_sites}

-- the first: the sets of the lifetimes meet all constraints
abbrev pub Constrained : Context → List Site → Sets → Type 0
Constrained C g R = Solution C g R

-- the second: each end of one of the function's own lifetimes in the set of another is known
abbrev pub EndsKnown : Context → Sets → Type 0
EndsKnown C R = Keeps C R

-- the sites of a loan hold each site of its lifetime that follows its borrow, or that follows one of them which doesn't end it
pub record Follows (g : List Site) (inside : ℕ → Bool) (l : Loan) (scope : ℕ → Bool) : Type 0 where
  pub begins : (p : ℕ) → has (targets (edges_of g) l.site) p ≡ true → inside p ≡ true → scope p ≡ true
  pub goes_on : (q p : ℕ) → scope q ≡ true → ends_at (site_at g q) l.place ≡ false → has (targets (edges_of g) q) p ≡ true
      → inside p ≡ true → scope p ≡ true

-- the third: so do those of each loan
abbrev pub LoansFollow : List Site → (ℕ → ℕ → Bool) → List Loan → (ℕ → ℕ → Bool) → Type 0
LoansFollow g R ls W = (i : ℕ) (l : Loan) → slice_get ls i ≡ Some l → Follows g (R l.region) l (W i)

-- the fourth: no access meets a conflicting loan at one of the loan's sites
abbrev pub NoneConflicts : List Site → List Loan → (ℕ → ℕ → Bool) → Type 0
NoneConflicts g ls W = (i p : ℕ) (l : Loan) (s : Site) → slice_get ls i ≡ Some l → site_at g p ≡ Some s → W i p ≡ true
    → acts_against s.action.act l ≡ false

abbrev pub loans_in : Context → List Site → List Loan
loans_in C g = loans_of g C.lifetimes.owned

-- sets of the lifetimes, and of the loans in the order of their borrows, keep the four rules
pub record Good (C : Context) (g : List Site) (R : Sets) (W : ℕ → ℕ → Bool) : Type 0 where
  pub constrained : Constrained C g R
  pub known : EndsKnown C R
  pub follow : LoansFollow g (at_sites R) (loans_in C g) W
  pub none_conflicts : NoneConflicts g (loans_in C g) W

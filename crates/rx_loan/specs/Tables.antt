-- What tables of loans tell; what private functions do.
use Rattle.std.specs.Prelude.{◌≡◌, ◌↔◌, ℕ, ◌*◌, ◌<◌, Bool, true, false, ◌&&◌, ◌||◌, ◌==◌, List, [], ◌∷◌, length, map, Option, Some, None, slice_get, get_or}
use Rattle.rx_typed.specs.Tree.{Place}
use Rattle.rx_graph_bits.specs.Rows.{holds}
use Rattle.rx_graph.specs.Tables.{at}
use Rattle.rx_lower_walks.specs.Graph.{Site, site_at}
use Rattle.rx_lower_lifetimes.specs.Numbered.{Own}
use Rattle.rx_loan.specs.Accesses as accesses
use Rattle.rx_loan.specs.Accesses.{Access, conflicts, acts_against}
use Rattle.rx_loan.specs.Loans.{loans_of, ends_at, InScope, MeetsLoan}
use Rattle.rx_loan.specs.PlainOf.{plain-Loan}
use Rattle.rx_loan.specs.declared.table.LoanTable.{LoanTable}

-- the loans of the sites, and of each the sites at which it is in scope
pub record IsLoanTable (g : List Site) (os : List Own) (R : ℕ → ℕ → Bool) (t : LoanTable) : Type 0 where
  pub list : map plain-Loan t.list ≡ loans_of g os
  pub exact : (i p : ℕ) (l : accesses.Loan) → slice_get (loans_of g os) i ≡ Some l → p < length g → (at t.rows.items i p ≡ true) ↔ InScope g R l p

-- a loan of this borrow is in scope at a site that accesses what it forbids
abbrev pub IsMet : List Site → (ℕ → ℕ → Bool) → List accesses.Loan → ℕ → ℕ → Type 0
IsMet g R ls b p = (l : accesses.Loan) × (l.site ≡ b) × MeetsLoan g R ls l p

-- ---- what private functions do

abbrev pub listed : Option accesses.Loan → List accesses.Loan
listed None = []
listed (Some l) = l ∷ []

-- the sites that end loans of a place
abbrev pub Stops : List Site → Place → List ℕ → Type 0
Stops g q row = (p : ℕ) → p < length g → holds row p ≡ ends_at (site_at g p) q

-- a number is added, if it is
abbrev pub Marks : List ℕ → List ℕ → ℕ → Bool → Type 0
Marks old new n added = (length new ≡ length old) × ((i : ℕ) → i < 64 * length old → holds new i ≡ ((added && i == n) || holds old i))

-- the sites at which a loan is in scope
abbrev pub Scopes : List Site → (ℕ → ℕ → Bool) → accesses.Loan → List ℕ → Type 0
Scopes g R l row = (p : ℕ) → p < length g → (holds row p ≡ true) ↔ InScope g R l p

pub record AllScoped (g : List Site) (R : ℕ → ℕ → Bool) (ls : List accesses.Loan) (rows : List (List ℕ)) (k : ℕ) : Type 0 where
  pub count : length rows ≡ k
  pub each : (i : ℕ) (l : accesses.Loan) → i < k → slice_get ls i ≡ Some l → Scopes g R l (get_or rows i [])

-- no loan in scope forbids it, or this borrow's does
abbrev pub NoneForbids : LoanTable → (accesses.Loan → Bool) → ℕ → Type 0
NoneForbids t against p = (i : ℕ) (l : accesses.Loan) → slice_get (map plain-Loan t.list) i ≡ Some l → at t.rows.items i p ≡ true → against l ≡ false

abbrev pub OneForbids : LoanTable → (accesses.Loan → Bool) → ℕ → ℕ → Type 0
OneForbids t against p b = (i : ℕ) × (l : accesses.Loan) × (slice_get (map plain-Loan t.list) i ≡ Some l) × (at t.rows.items i p ≡ true) × (against l ≡ true) × (l.site ≡ b)

-- Loans, and where they are in scope. (RFC 2094, "Loans in scope": a loan goes out of scope where its region ends, or where a write
-- of a prefix of its place changes what it leads to.)
use Rattle.std.specs.Prelude.{◌≡◌, ℕ, ◌+◌, Bool, true, false, List, [], ◌∷◌, ◌++◌, Option, Some, None}
use Rattle.rx_typed.specs.Tree.{Place}
use Rattle.rx_lower_walks.specs.Actions.{Act, Borrow, Write}
use Rattle.rx_lower_walks.specs.Walks.{Among}
use Rattle.rx_lower_walks.specs.Graph.{Site, site_at}
use Rattle.rx_lower_lifetimes.specs.Numbered.{Own, region}
use Rattle.rx_facts_tables.specs.Along.{edges_of}
use Rattle.rx_graph_reach.specs.Reached.{Reached}
use Rattle.rx_typed.specs.TypedPlaces.{is_prefix}
use Rattle.rx_loan.specs.Accesses.{Loan, acts_against}

-- each borrow makes a loan, whose region is the site's own
abbrev pub borrow_loan : ℕ → Bool → Place → Own → List Loan
borrow_loan n k p (region r) = record { site = n; region = r; mutable = k; place = p } ∷ []
borrow_loan n k p _ = []

abbrev pub loan_at : ℕ → Act → Own → List Loan
loan_at n (Borrow k p d) o = borrow_loan n k p o
loan_at n _ o = []

abbrev pub loans_from : ℕ → List Site → List Own → List Loan
loans_from n (s ∷ g) (o ∷ os) = loan_at n s.action.act o ++ loans_from (n + 1) g os
loans_from n _ _ = []

-- in the order of their borrows
abbrev pub loans_of : List Site → List Own → List Loan
loans_of g os = loans_from 0 g os

-- a write of the place, or of one that it is in
abbrev pub ends : Place → Act → Bool
ends q (Write p t ss) = is_prefix p q
ends q _ = false

abbrev pub ends_at : Option Site → Place → Bool
ends_at None q = false
ends_at (Some s) q = ends q s.action.act

-- a loan is in scope at a site that some way from its borrow comes to, of which each site behind the borrow is in its region, and none
-- before the last ends it
abbrev pub InScope : List Site → (ℕ → ℕ → Bool) → Loan → ℕ → Type 0
InScope g R l p = Reached (edges_of g) (R l.region) (λ q. ends_at (site_at g q) l.place) l.site p

-- a site accesses what a loan in scope there forbids
pub record MeetsLoan (g : List Site) (R : ℕ → ℕ → Bool) (ls : List Loan) (l : Loan) (p : ℕ) : Type 0 where
  pub listed : Among l ls
  pub scope : InScope g R l p
  pub against : (s : Site) × (site_at g p ≡ Some s) × (acts_against s.action.act l ≡ true)

-- no access meets a conflicting loan in scope
abbrev pub IsLegal : List Site → (ℕ → ℕ → Bool) → List Loan → Type 0
IsLegal g R ls = (l : Loan) (p : ℕ) → MeetsLoan g R ls l p → ⊥

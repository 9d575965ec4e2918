-- What is found of a function's loans is what is answered.
use Rattle.std.proofs.Common.{◌≡◌, ℕ, ◌<◌, Bool, true, false, ◌&&◌, nat_lt, List, length, sym, subst, true≢false, lt-ltb}
use Rattle.rx_graph.specs.Tables.{at}
use Rattle.rx_lower_walks.specs.Graph.{Site}
use Rattle.rx_lower_lifetimes.specs.Numbered.{Own}
use Rattle.rx_region.specs.Constraints.{Context}
use Rattle.rx_region.specs.Solutions.{site, end, Sets, AreLeast}
use Rattle.rx_region.specs.Known.{Missing}
use Rattle.rx_region.proofs.LeastLaws.{least_serves, least_is_within}
use Rattle.rx_region.specs.Tables.{sets_of, Keeps}
use Rattle.rx_region.specs.declared.regions.Regions.{Regions}
use Rattle.rx_facts_tables.proofs.Ways.{site_within}
use Rattle.rx_loan.specs.Loans.{loans_of, IsLegal}
use Rattle.rx_loan.specs.Tables.{IsLoanTable, IsMet}
use Rattle.rx_loan.specs.declared.table.LoanTable.{LoanTable}
use Rattle.rx_loan.proofs.Walking.{more_scope, fewer_legal}
use Rattle.rx_loan.specs.Accepted.{at_sites, IsAccepted}
use Rattle.rx_loan.specs.Answer.{AreLoans, IsForbidden}
use Rattle.rx_loan.proofs.Fewest.{least_too}

pub nothing_missing : (C : Context) (g : List Site) (R : Sets) → AreLeast C g R → Keeps C R → (l k : ℕ) → Missing C g l k → ⊥
nothing_missing C g R least keeps l k m = m.unknown (keeps l k m.long m.short ((least l (end k)).1 m.needed))

-- ---- the sites of rows, and of sets

row_has : (r : Regions) (g : List Site) → r.sites ≡ length g → (l p : ℕ) → p < length g → at r.rows l p ≡ true → at_sites (sets_of r) l p ≡ true
row_has r g is l p w h = both (nat_lt p r.sites) (at r.rows l p) (below p r.sites (subst (λ n. p < n) (sym is) w)) h where
  below : (a b : ℕ) → a < b → nat_lt a b ≡ true
  below a b h = lt-ltb a b h

  both : (a b : Bool) → a ≡ true → b ≡ true → (a && b) ≡ true
  both true b e h = h
  both false b e h = absurd (true≢false (sym e))

set_has : (r : Regions) (l p : ℕ) → at_sites (sets_of r) l p ≡ true → at r.rows l p ≡ true
set_has r l p h = behind (nat_lt p r.sites) (at r.rows l p) h where
  behind : (a b : Bool) → (a && b) ≡ true → b ≡ true
  behind true b h = h
  behind false b h = absurd (true≢false (sym h))

-- a table by some sets of sites is one by others that have the same
same_table : (g : List Site) (os : List Own) (R S : ℕ → ℕ → Bool) (t : LoanTable) → ((l p : ℕ) → p < length g → R l p ≡ true → S l p ≡ true)
    → ((l p : ℕ) → p < length g → S l p ≡ true → R l p ≡ true) → IsLoanTable g os R t → IsLoanTable g os S t
same_table g os R S t more fewer table = record {
  list = table.list;
  exact = λ i p l e w. (
    λ h. more_scope g R S l p w more ((table.exact i p l e w).0 h),
    λ s. (table.exact i p l e w).1 (more_scope g S R l p w fewer s),
  );
}

-- two least sets have the same points
same_least : (C : Context) (g : List Site) (R S : Sets) → AreLeast C g R → AreLeast C g S → (l p : ℕ) → at_sites R l p ≡ true → at_sites S l p ≡ true
same_least C g R S a b l p h = (b l (site p)).1 ((a l (site p)).0 h)

-- ---- answers

pub accepted : (C : Context) (g : List Site) (r : Regions) (t : LoanTable) → r.sites ≡ length g → AreLeast C g (sets_of r) → Keeps C (sets_of r)
    → IsLoanTable g C.lifetimes.owned (at r.rows) t → IsLegal g (at r.rows) (loans_of g C.lifetimes.owned) → AreLoans C g t
accepted C g r t is least known table legal = record {
  accepted = (
    sets_of r,
    record {
      solution = least_serves C g (sets_of r) least;
      known = known;
      legal = fewer_legal g (at_sites (sets_of r)) (at r.rows) (loans_of g C.lifetimes.owned) (λ x y w h. set_has r x y h) legal;
    },
  );
  exact = λ R other. same_table g C.lifetimes.owned (at r.rows) (at_sites R) t
      (λ x y w h. same_least C g (sets_of r) R least other x y (row_has r g is x y w h))
      (λ x y w h. set_has r x y (same_least C g R (sets_of r) other least x y h)) table;
}

pub forbidden : (C : Context) (g : List Site) (r : Regions) (b p : ℕ) → r.sites ≡ length g → AreLeast C g (sets_of r) → Keeps C (sets_of r)
    → IsMet g (at r.rows) (loans_of g C.lifetimes.owned) b p → IsForbidden C g b p
forbidden C g r b p is least known met = record {
  none_missing = nothing_missing C g (sets_of r) least known;
  sets = sets_of r;
  least = least;
  met = (
    met.0,
    met.1,
    record {
      listed = met.2.listed;
      scope = more_scope g (at r.rows) (at_sites (sets_of r)) met.0 p (site_within g p met.2.against.0 met.2.against.1) (λ x y v h. row_has r g is x y v h) met.2.scope;
      against = met.2.against;
    },
  );
}

-- ---- refusals exclude acceptance

pub missing_or_accepted : (C : Context) (g : List Site) (l k : ℕ) → Missing C g l k → IsAccepted C g → ⊥
missing_or_accepted C g l k m is = m.unknown (is.1.known l k m.long m.short (least_is_within C g is.0 is.1.solution l (end k) m.needed))

pub forbidden_or_accepted : (C : Context) (g : List Site) (b p : ℕ) → IsForbidden C g b p → IsAccepted C g → ⊥
forbidden_or_accepted C g b p refused is = (least_too C g is.0 refused.sets is.1 refused.least).legal refused.met.0 p refused.met.2

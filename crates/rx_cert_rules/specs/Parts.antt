-- What private functions test: parts of the rules, of one lifetime, pair, site or loan.
use Rattle.std.specs.Prelude.{◌≡◌, ◌↔◌, ℕ, ◌+◌, ◌<◌, Bool, true, false, List, Some, slice_get}
use Rattle.rx_core.specs.declared.types.Bound.{Bound}
use Rattle.rx_graph_bits.specs.Rows.{words}
use Rattle.rx_graph.specs.Tables.{at, Regular}
use Rattle.rx_graph.specs.Facts.{has, targets}
use Rattle.rx_typed.specs.Tree.{Place}
use Rattle.rx_lower_walks.specs.Graph.{Site, site_at}
use Rattle.rx_facts_tables.specs.Along.{edges_of}
use Rattle.rx_region.specs.Solutions.{site}
use Rattle.rx_region.specs.Points.{has_point}
use Rattle.rx_region_outlives.specs.Implied.{HasPair}
use Rattle.rx_region.specs.declared.outlives.Outlives.{Outlives}
use Rattle.rx_loan.specs.Accesses.{Loan, acts_against}
use Rattle.rx_loan.specs.Loans.{ends_at}

-- a test answers whether this holds
abbrev pub Tells : Bool → Type 0 → Type 0
Tells b A = (b ≡ true) ↔ A

-- numbers below a bound that a row of the second member has are in that of the first
abbrev pub Within : List (List ℕ) → ℕ → ℕ → ℕ → Type 0
Within T long short bound = (i : ℕ) → i < bound → at T short i ≡ true → at T long i ≡ true

-- a lifetime has the sites that it must hold by itself; so has each of the first lifetimes
abbrev pub HoldsMust : Outlives → List (List ℕ) → ℕ → ℕ → Type 0
HoldsMust o T sites l = (p : ℕ) → p < sites → has_point o.rows o.sites l (site p) ≡ true → at T l p ≡ true

abbrev pub AllHoldMust : Outlives → List (List ℕ) → ℕ → ℕ → Type 0
AllHoldMust o T sites count = (l : ℕ) → l < count → HoldsMust o T sites l

-- each of the function's own lifetimes has its end
abbrev pub AllHaveEnds : List (List ℕ) → ℕ → ℕ → Type 0
AllHaveEnds T sites own = (l : ℕ) → l < own → at T l (sites + l) ≡ true

-- the longer of each pair contains the shorter, of numbers below a bound
abbrev pub AllWithin : List (List ℕ) → List Bound → ℕ → Type 0
AllWithin T pairs bound = (j : ℕ) (b : Bound) → slice_get pairs j ≡ Some b → Within T b.long b.short bound

-- a table of pairs of numbers below a bound
pub record IsTableOf (pairs : List Bound) (own : ℕ) (T : List (List ℕ)) : Type 0 where
  pub regular : Regular own (words own) T
  pub exact : (l k : ℕ) → l < own → k < own → (at T l k ≡ true) ↔ HasPair pairs l k

-- each end in the set of a lifetime is in the table; so are those in all
abbrev pub EndsIn : List (List ℕ) → List (List ℕ) → ℕ → ℕ → ℕ → Type 0
EndsIn T K sites own l = (k : ℕ) → k < own → at T l (sites + k) ≡ true → at K l k ≡ true

abbrev pub AllEndsIn : List (List ℕ) → List (List ℕ) → ℕ → ℕ → Type 0
AllEndsIn T K sites own = (l : ℕ) → l < own → EndsIn T K sites own l

-- those of some sites that are inside are in scope
abbrev pub SomeFollow : (ℕ → Bool) → (ℕ → Bool) → List ℕ → Type 0
SomeFollow inside scope next = (p : ℕ) → has next p ≡ true → inside p ≡ true → scope p ≡ true

-- behind a site in scope that doesn't end loans of the place, those that are inside are in scope; so it is behind the first sites
abbrev pub GoesOnAt : List Site → (ℕ → Bool) → Place → (ℕ → Bool) → ℕ → Type 0
GoesOnAt g inside q scope p = scope p ≡ true → ends_at (site_at g p) q ≡ false → SomeFollow inside scope (targets (edges_of g) p)

abbrev pub GoesOn : List Site → (ℕ → Bool) → Place → (ℕ → Bool) → ℕ → Type 0
GoesOn g inside q scope count = (p : ℕ) → p < count → GoesOnAt g inside q scope p

-- an access at a site of the row of a loan doesn't conflict with it; nor at any of the first sites
abbrev pub QuietAt : List Site → Loan → (ℕ → Bool) → ℕ → Type 0
QuietAt g l scope p = (s : Site) → site_at g p ≡ Some s → scope p ≡ true → acts_against s.action.act l ≡ false

abbrev pub Quiet : List Site → Loan → (ℕ → Bool) → ℕ → Type 0
Quiet g l scope count = (p : ℕ) → p < count → QuietAt g l scope p

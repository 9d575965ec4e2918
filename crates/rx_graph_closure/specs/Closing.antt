-- Sets that contain one another along pairs (reachability: RFC 2094, "Solving constraints"). Each member has a set of numbers, a
-- row of bits; a pair says that the set of its longer member contains that of its shorter.
use Rattle.std.specs.Prelude.{◌≡◌, ◌↔◌, ℕ, ◌<◌, ◌≤◌, Bool, true, false, List, length, Some, slice_get}
use Rattle.rx_core.specs.declared.types.Bound.{Bound}
use Rattle.rx_graph.specs.Tables.{at, total, Regular}

-- the list has this pair
abbrev pub Has : List Bound → Bound → Type 0
Has pairs b = (j : ℕ) × (slice_get pairs j ≡ Some b)

-- a number comes to a member: its own set has it, or it comes to one that it is longer than
pub data Comes (pairs : List Bound) (T : List (List ℕ)) (i : ℕ) : ℕ → Type 0 where
  here : {l : ℕ} → at T l i ≡ true → Comes pairs T i l
  longer : (b : Bound) → Has pairs b → Comes pairs T i b.short → Comes pairs T i b.long

-- each member is below this number
abbrev pub Within : List Bound → ℕ → Type 0
Within pairs n = (b : Bound) → Has pairs b → (b.long < n) × (b.short < n)

-- the sets are closed: each has exactly what comes to its member, where each member has a set
pub record Closed (pairs : List Bound) (w : ℕ) (old new : List (List ℕ)) : Type 0 where
  pub regular : Regular (length old) w new
  pub exact : Within pairs (length old) → (l i : ℕ) → l < length old → (at new l i ≡ true) ↔ Comes pairs old i l

-- ---- what private functions do

-- the set of the longer contains that of the shorter, where it has one
abbrev pub Contains : List (List ℕ) → Bound → Type 0
Contains T b = b.long < length T → (i : ℕ) → at T b.short i ≡ true → at T b.long i ≡ true

-- nothing is lost, and what is new comes along pairs
pub record Kept (pairs : List Bound) (w : ℕ) (old new : List (List ℕ)) : Type 0 where
  pub regular : Regular (length old) w new
  pub keeps : (l i : ℕ) → at old l i ≡ true → at new l i ≡ true
  pub sound : (base : List (List ℕ)) → ((l i : ℕ) → at old l i ≡ true → Comes pairs base i l)
      → (l i : ℕ) → at new l i ≡ true → Comes pairs base i l

-- some of these pairs were passed
pub record Passed (pairs : List Bound) (w : ℕ) (old new : List (List ℕ)) : Type 0 where
  pub kept : Kept pairs w old new
  pub more : total old ≤ total new

-- pairs of some kind were passed; where nothing grew, they hold
pub record Grown (pairs : List Bound) (w : ℕ) (Done : Bound → Type 0) (old new : List (List ℕ)) (grown : Bool) : Type 0 where
  pub kept : Kept pairs w old new
  pub same : grown ≡ false → new ≡ old
  pub holds : grown ≡ false → (b : Bound) → Done b → Contains new b
  pub more : grown ≡ true → total old < total new

-- all of them hold
pub record Settled (pairs : List Bound) (w : ℕ) (old new : List (List ℕ)) : Type 0 where
  pub kept : Kept pairs w old new
  pub holds : (b : Bound) → Has pairs b → Contains new b

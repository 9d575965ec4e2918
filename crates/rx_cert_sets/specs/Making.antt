-- What private functions do: numbers that are added to a row, and the rows of sets and of scopes.
use Rattle.std.specs.Prelude.{◌≡◌, ◌⊎◌, ℕ, ◌+◌, ◌*◌, ◌<◌, ◌≤◌, Bool, ◌&&◌, ◌||◌, ◌==◌, List, [], length, get_or}
use Rattle.rx_graph_bits.specs.Rows.{holds}
use Rattle.rx_region.specs.Solutions.{Sets, site, end}

-- a number is added, if it is held
pub record Marked (old new : List ℕ) (n : ℕ) (held : Bool) : Type 0 where
  pub width : length new ≡ length old
  pub holds_too : (i : ℕ) → i < 64 * length old → holds new i ≡ ((held && i == n) || holds old i)

-- so many numbers from one on are added, where they pass
pub record Filled (passes : ℕ → Bool) (from n : ℕ) (old new : List ℕ) : Type 0 where
  pub width : length new ≡ length old
  pub inside : (k : ℕ) → k < n → from + k < 64 * length old → holds new (from + k) ≡ (passes k || holds old (from + k))
  pub outside : (i : ℕ) → i < 64 * length old → (i < from) ⊎ (from + n ≤ i) → holds new i ≡ holds old i

-- the row of a lifetime's set
pub record IsPointRow (R : Sets) (sites own n : ℕ) (row : List ℕ) : Type 0 where
  pub site_held : (p : ℕ) → p < sites → holds row p ≡ R n (site p)
  pub end_held : (k : ℕ) → k < own → holds row (sites + k) ≡ R n (end k)

-- the row of a loan's scope
pub record IsScopeRow (S : ℕ → ℕ → Bool) (sites n : ℕ) (row : List ℕ) : Type 0 where
  pub site_held : (p : ℕ) → p < sites → holds row p ≡ S n p

-- so many rows, of each of which this holds
pub record AllRows (Holds : ℕ → List ℕ → Type 0) (count : ℕ) (rows : List (List ℕ)) : Type 0 where
  pub counted : length rows ≡ count
  pub each : (n : ℕ) → n < count → Holds n (get_or rows n [])

-- Tables of facts: a row of bits for each site.
use Rattle.std.specs.Prelude.{◌≡◌, ◌↔◌, ℕ, ◌+◌, ◌*◌, ◌<◌, Bool, true, false, not, ◌&&◌, ◌||◌, List, [], ◌∷◌, length, get_or}
use Rattle.rx_graph_bits.specs.Rows.{holds, rank, Bounded}
use Rattle.rx_graph.specs.declared.effect.Effect.{Effect}
use Rattle.rx_graph.specs.declared.effect.Start.{Start}
use Rattle.rx_graph.specs.Facts.{has, Holds}

-- whether the table has a fact at a site
abbrev pub at : List (List ℕ) → ℕ → ℕ → Bool
at T p i = holds (get_or T p []) i

-- the table has a row for each site, in which exactly the facts below the bound that hold there are
pub record Tells (edges : List (List ℕ)) (effects : List Effect) (start : Start) (bound : ℕ) (T : List (List ℕ)) : Type 0 where
  pub count : length T ≡ length edges
  pub exact : (p i : ℕ) → p < length edges → i < bound → (at T p i ≡ true) ↔ Holds edges effects start i p

-- ---- what private functions do

-- how much stands in a table
abbrev pub total : List (List ℕ) → ℕ
total [] = 0
total (r ∷ rs) = rank r + total rs

-- rows of so many words each
pub record Regular (n w : ℕ) (T : List (List ℕ)) : Type 0 where
  pub count : length T ≡ n
  pub width : (p : ℕ) → p < n → length (get_or T p []) ≡ w
  pub bounded : (p : ℕ) → p < n → Bounded (get_or T p [])

-- facts are made false, made true, or as a site makes them
pub record Changed (old new : List ℕ) (f : ℕ → Bool → Bool) : Type 0 where
  pub width : length new ≡ length old
  pub holds : (i : ℕ) → i < 64 * length old → holds new i ≡ f i (holds old i)
  pub bounded : Bounded old → Bounded new

abbrev pub without : List ℕ → ℕ → Bool → Bool
without facts i before = not (has facts i) && before

abbrev pub with : List ℕ → ℕ → Bool → Bool
with facts i before = has facts i || before

-- a row is joined to those of these sites
pub record Spread (w : ℕ) (old new : List (List ℕ)) (sites : List ℕ) (row : List ℕ) (grown : Bool) : Type 0 where
  pub regular : Regular (length old) w new
  pub at : (p i : ℕ) → p < length old → at new p i ≡ (at old p i || (has sites p && holds row i))
  pub same : grown ≡ false → new ≡ old
  pub more : grown ≡ true → total old < total new

-- rows of so many words each, of which nothing holds
pub record Empty (n w : ℕ) (T : List (List ℕ)) : Type 0 where
  pub regular : Regular n w T
  pub nothing : (p i : ℕ) → p < n → at T p i ≡ false

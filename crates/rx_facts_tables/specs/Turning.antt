-- A graph with its edges turned round.
use Rattle.std.specs.Prelude.{◌≡◌, ℕ, ◌<◌, ◌||◌, ◌&&◌, ◌==◌, List, length}
use Rattle.rx_graph.specs.Facts.{has, targets}

-- a site leads to those that led to it
pub record Turned (edges back : List (List ℕ)) : Type 0 where
  pub count : length back ≡ length edges
  pub turns : (p q : ℕ) → q < length edges → has (targets back q) p ≡ has (targets edges p) q

-- ---- what private functions do

-- a number is added to the lists at these places
pub record Joined (old new : List (List ℕ)) (places : List ℕ) (n : ℕ) : Type 0 where
  pub count : length new ≡ length old
  pub at : (q p : ℕ) → q < length old → has (targets new q) p ≡ (has (targets old q) p || (p == n && has places q))

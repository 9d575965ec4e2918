-- Tables of sets that are filled: what each then has beside what it had.
use Rattle.std.specs.Prelude.{◌≡◌, ◌↔◌, ◌⊎◌, ℕ, ◌*◌, ◌<◌, true, List, length}
use Rattle.rx_graph_bits.specs.Rows.{holds, Bounded}
use Rattle.rx_graph.specs.Tables.{at, Regular}

-- a row of so many words that has exactly these numbers
pub record HasExactly (w : ℕ) (row : List ℕ) (P : ℕ → Type 0) : Type 0 where
  pub width : length row ≡ w
  pub bounded : Bounded row
  pub exact : (i : ℕ) → i < 64 * w → (holds row i ≡ true) ↔ P i

-- these numbers are added to these members
pub record Added (w : ℕ) (old new : List (List ℕ)) (P : ℕ → ℕ → Type 0) : Type 0 where
  pub regular : Regular (length old) w new
  pub exact : (m i : ℕ) → m < length old → i < 64 * w → (at new m i ≡ true) ↔ ((at old m i ≡ true) ⊎ P m i)

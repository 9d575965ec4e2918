-- Rows of bits as sets of numbers: words of 64 bits, the least number in the lowest bit of the first word.
use Rattle.std.specs.Prelude.{◌≡◌, ℕ, ◌+◌, ◌*◌, ◌/◌, ◌%◌, ◌<◌, ◌≤◌, Bool, true, false, ◌||◌, ◌&&◌, not, ◌==◌, List, [], ◌∷◌, length, get_or}
use Rattle.std.specs.Int.{bit_at}

-- whether the row holds a number
abbrev pub holds : List ℕ → ℕ → Bool
holds ws i = bit_at (get_or ws (i / 64) 0) (i % 64) == 1

-- how many words a row for the numbers below a bound has
abbrev pub words : ℕ → ℕ
words bound = bound / 64 + 1

-- what grows with each number that is added
abbrev pub rank : List ℕ → ℕ
rank [] = 0
rank (w ∷ ws) = w + rank ws

-- each word has 64 bits
abbrev pub Bounded : List ℕ → Type 0
Bounded ws = rank ws ≤ 18446744073709551615 * length ws

-- ---- what may be done with a row, of the numbers that it has bits for

-- a number is added
pub record Inserted (old new : List ℕ) (n : ℕ) : Type 0 where
  pub width : length new ≡ length old
  pub holds : (i : ℕ) → i < 64 * length old → holds new i ≡ (i == n || holds old i)

-- a number is taken out
pub record Removed (old new : List ℕ) (n : ℕ) : Type 0 where
  pub width : length new ≡ length old
  pub holds : (i : ℕ) → i < 64 * length old → holds new i ≡ (not (i == n) && holds old i)

-- the numbers of another are added
pub record Joined (old other new : List ℕ) (grown : Bool) : Type 0 where
  pub width : length new ≡ length old
  pub holds : (i : ℕ) → holds new i ≡ (holds old i || holds other i)
  pub same : grown ≡ false → new ≡ old
  pub more : grown ≡ true → rank old < rank new

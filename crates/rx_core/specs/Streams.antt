-- Counts of a stream that never fall, what a source has left after a call, and what a sink holds then.
use Rattle.std.specs.Prelude.{ℕ, ◌≡◌, ◌<◌, ◌++◌, List, Option, Some, None}

-- a count below its last value (that of a `u64`) has risen; at its last value it counts as risen
abbrev pub Rose : ℕ → ℕ → Type 0
Rose old new = old < 18446744073709551615 → old < new

-- what holds of the bytes, where they are told
abbrev pub Told : Option (List ℕ) → (List ℕ → Type 0) → Type 0
Told stream P = (bytes : List ℕ) → stream ≡ Some bytes → P bytes

-- these were the first bytes left, and are gone; what isn't told stays untold
pub record Gone (old new : Option (List ℕ)) (bytes : List ℕ) : Type 0 where
  pub told : Told old (λ left. (rest : List ℕ) × (left ≡ bytes ++ rest) × (new ≡ Some rest))
  pub untold : old ≡ None → new ≡ None

-- what is held has grown by these bytes; what isn't told stays untold
pub record Grown (old new : Option (List ℕ)) (bytes : List ℕ) : Type 0 where
  pub told : Told old (λ held. new ≡ Some (held ++ bytes))
  pub untold : old ≡ None → new ≡ None

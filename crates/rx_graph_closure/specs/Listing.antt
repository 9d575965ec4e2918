-- The pairs of numbers for which a test holds, in the order of the longer, then of the shorter.
use Rattle.std.specs.Prelude.{ℕ, zero, suc, Bool, if◌then◌else◌, List, [], ◌∷◌, ◌++◌}
use Rattle.rx_core.specs.declared.types.Bound.{Bound}

abbrev pub pair_if : Bool → ℕ → ℕ → List Bound
pair_if b l k = if b then record { long = l; short = k } ∷ [] else []

-- with so many shorter numbers, from this one on
abbrev pub pairs_of : (ℕ → ℕ → Bool) → ℕ → ℕ → ℕ → List Bound
pairs_of f l k zero = []
pairs_of f l k (suc n) = pair_if (f l k) l k ++ pairs_of f l (suc k) n

-- with so many longer numbers, from this one on
abbrev pub pairs_from : (ℕ → ℕ → Bool) → ℕ → ℕ → ℕ → List Bound
pairs_from f n l zero = []
pairs_from f n l (suc m) = pairs_of f l 0 n ++ pairs_from f n (suc l) m

-- of numbers below this one
abbrev pub pairs_below : (ℕ → ℕ → Bool) → ℕ → List Bound
pairs_below f n = pairs_from f n 0 n

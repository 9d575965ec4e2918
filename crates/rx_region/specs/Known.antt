-- Which of a function's own lifetimes are known to outlive which: by the declared bounds, and because the types of its parameters
-- and its result are formed (Rust Reference, "Lifetime bounds"; RFC 2094, "Named lifetimes"). A pair that the least sets need and
-- that is not known is missing.
use Rattle.std.specs.Prelude.{ℕ, ◌<◌, List, [], ◌∷◌, ◌++◌, get_or}
use Rattle.rx_core.specs.declared.types.Bound.{Bound}
use Rattle.rx_typed.specs.Regions.{RegionTyp}
use Rattle.rx_lower_walks.specs.Graph.{Site}
use Rattle.rx_region_outlives.specs.Implied.{HasPair, implied_in}
use Rattle.rx_typed.specs.Renaming.{unit_region}
use Rattle.rx_region.specs.Constraints.{Context}
use Rattle.rx_region.specs.Solutions.{end, Least}

-- of the parameters' types, by their variables
abbrev pub parameters_ask : Context → List ℕ → List Bound
parameters_ask C [] = []
parameters_ask C (x ∷ xs) = implied_in C.implied (get_or C.lifetimes.types x unit_region) ++ parameters_ask C xs

-- the pairs that are declared, or that the signature's types ask
abbrev pub told : Context → List Bound
told C = C.lifetimes.bounds ++ (parameters_ask C C.lifetimes.params ++ implied_in C.implied C.lifetimes.answer)

-- with all that follows from them
pub data KnownToOutlive (C : Context) : ℕ → ℕ → Type 0 where
  itself : {l : ℕ} → KnownToOutlive C l l
  by : {l k : ℕ} (m : ℕ) → HasPair (told C) l m → KnownToOutlive C m k → KnownToOutlive C l k

-- the end of the second is in the least set of the first, and it is not known that this outlives that
pub record Missing (C : Context) (g : List Site) (l k : ℕ) : Type 0 where
  pub long : l < C.lifetimes.own
  pub short : k < C.lifetimes.own
  pub needed : Least C g l (end k)
  pub unknown : KnownToOutlive C l k → ⊥

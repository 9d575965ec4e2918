-- The least bounds of a function: the pairs of its own lifetimes that its body needs and that its types don't make known.
-- RFC 2094, "Named lifetimes": each lifetime of a signature is a region that has all points of the body and an end of its own, and
-- where the region of one comes to have the end of another, the signature must say that the one outlives the other. (In today's Rust
-- these are the universal regions, and the pairs that are missing are reported one by one; here they are all told at once, as those of
-- every solution.) Rust Reference, "Lifetime bounds", for what the types of parameters and result make known.
use Rattle.std.specs.Prelude.{◌≡◌, ◌≢◌, ◌↔◌, ◌⊎◌, ℕ, ◌<◌, true, List, [], ◌∷◌, ◌++◌}
use Rattle.rx_core.specs.declared.types.Bound.{Bound}
use Rattle.rx_lower_walks.specs.Graph.{Site}
use Rattle.rx_region_outlives.specs.Implied.{HasPair, implied_in}
use Rattle.rx_region.specs.Constraints.{Context}
use Rattle.rx_region.specs.Solutions.{end, Sets, Solution}
use Rattle.rx_region.specs.Known.{parameters_ask}
use Rattle.rx_region.specs.Tables.{Follows}

-- the pairs that the types of the parameters and of the result ask
abbrev pub by_types : Context → List Bound
by_types C = parameters_ask C C.lifetimes.params ++ implied_in C.implied C.lifetimes.answer

-- one of them, of two of the function's own lifetimes
pub record IsLeastBound (C : Context) (g : List Site) (l k : ℕ) : Type 0 where
  pub long : l < C.lifetimes.own
  pub short : k < C.lifetimes.own
  pub different : l ≢ k
  -- every solution has the end of the second in the set of the first
  pub needed : (R : Sets) → Solution C g R → R l (end k) ≡ true
  -- and it doesn't follow from what the types ask
  pub unknown : Follows (by_types C) l k → ⊥

-- a pair comes before another: by the longer, and then by the shorter
abbrev pub Before : Bound → Bound → Type 0
Before b c = (b.long < c.long) ⊎ ((b.long ≡ c.long) × (b.short < c.short))

-- each comes before all that stand behind it
abbrev pub InOrder : List Bound → Type 0
InOrder [] = Unit {0}
InOrder (b ∷ bs) = ((c : Bound) → HasPair bs c.long c.short → Before b c) × InOrder bs

-- all of them, in their order
pub record AreLeastBounds (C : Context) (g : List Site) (bs : List Bound) : Type 0 where
  pub exact : (l k : ℕ) → HasPair bs l k ↔ IsLeastBound C g l k
  pub ordered : InOrder bs

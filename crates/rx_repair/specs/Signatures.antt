-- What the signature of a function says of its lifetimes: its bounds, and what the types of its parameters and its result ask (Rust
-- Reference, "Lifetime bounds"). A call asks it of the lifetimes that it has in their places (RFC 2094, "Subtyping").
use Rattle.std.specs.Prelude.{ℕ, List, [], ◌++◌, map, Option, Some}
use Rattle.rx_core.specs.declared.types.Bound.{Bound}
use Rattle.rx_typed.specs.declared.declarations.Decl.{Decl}
use Rattle.rx_typed.specs.declared.declarations.Decl.TheVariants as decl
use Rattle.rx_typed.specs.Regions.{regions_of, region-Ty}
use Rattle.rx_region_outlives.specs.Implied.{implied_in, implied_among}

-- by the pairs of each item's lifetimes; an item that is no function says nothing
abbrev pub signature_says : (ℕ → List Bound) → Option Decl → List Bound
signature_says P (Some (decl.Func l ps t bs)) = bs ++ (implied_among P (regions_of (map region-Ty ps)) ++ implied_in P (region-Ty t))
signature_says P _ = []

-- What is known of a function's lifetimes, as the code keeps it (Rust Reference, "Lifetime bounds").
use Rattle.std.specs.Prelude.{ℕ, nat_lt, ◌==◌, Bool, ◌&&◌, ◌||◌, List, [], ◌++◌, map, Option, Some}
use Rattle.rx_core.specs.declared.types.Bound.{Bound}
use Rattle.rx_core.specs.declared.types.Ty.{Ty}
use Rattle.rx_graph.specs.Tables.{at}
use Rattle.rx_typed.specs.declared.declarations.Decl.{Decl}
use Rattle.rx_typed.specs.declared.declarations.Decl.TheVariants as decl
use Rattle.rx_typed.specs.Regions.{region-Ty, regions_of}
use Rattle.rx_region_outlives.specs.Implied.{implied_among, implied_in}
use Rattle.rx_compact_known.specs.declared.known.KnownLifetimes.{KnownLifetimes}

-- the pairs that a signature says, by the pairs that the fields of each item ask
abbrev pub of_signature : (ℕ → List Bound) → List Ty → Ty → List Bound → List Bound
of_signature P ps t bs = bs ++ (implied_among P (regions_of (map region-Ty ps)) ++ implied_in P (region-Ty t))

-- those of an item
abbrev pub said : (ℕ → List Bound) → Option Decl → List Bound
said P (Some (decl.Func n ps t bs)) = of_signature P ps t bs
said P _ = []

-- a lifetime outlives itself, and what its row has; only those below n have one
abbrev pub outlives_by : List (List ℕ) → ℕ → ℕ → ℕ → Bool
outlives_by T n l k = (l == k) || ((nat_lt l n && nat_lt k n) && at T l k)

abbrev pub knows : KnownLifetimes → ℕ → ℕ → Bool
knows x l k = outlives_by x.rows x.count l k

-- What a function lacks: the pairs of its own lifetimes that are missing, in their order (RFC 2094, "Named lifetimes").
use Rattle.std.specs.Prelude.{◌≡◌, ◌↔◌, ℕ, List, []}
use Rattle.rx_core.specs.declared.types.Bound.{Bound}
use Rattle.rx_typed.specs.declared.declarations.Decl.{Decl}
use Rattle.rx_typeck_typed.specs.declared.typed.TypedFn.{TypedFn}
use Rattle.rx_lower_walks.specs.Graph.{Site}
use Rattle.rx_region_outlives.specs.Implied.{HasPair}
use Rattle.rx_region.specs.Constraints.{Context}
use Rattle.rx_region.specs.Known.{Missing}
use Rattle.rx_facts.specs.Functions.{sites_of}
use Rattle.rx_check.specs.Contexts.{AreAsked, context_of}
use Rattle.rx_repair.specs.LeastBounds.{InOrder, AreLeastBounds}

pub record AreMissing (C : Context) (g : List Site) (bs : List Bound) : Type 0 where
  pub exact : (l k : ℕ) → HasPair bs l k ↔ Missing C g l k
  pub ordered : InOrder bs

-- by any lists of the pairs that fields ask
abbrev pub Lacks : List Decl → TypedFn → List Bound → Type 0
Lacks D f bs = (P : ℕ → List Bound) → AreAsked D P → AreMissing (context_of D P f) (sites_of f) bs

-- they are its least bounds, where it has none of its own
abbrev pub Needs : List Decl → TypedFn → List Bound → Type 0
Needs D f bs = (P : ℕ → List Bound) → AreAsked D P → (context_of D P f).lifetimes.bounds ≡ [] → AreLeastBounds (context_of D P f) (sites_of f) bs

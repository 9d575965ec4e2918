-- What the lifetimes of a function of a typed program are judged by: what is declared, the pairs of each item's lifetimes that its
-- fields ask (RFC 2094, "Reborrow constraints", of types as well-formed), and the lifetimes of its graph.
use Rattle.std.specs.Prelude.{ℕ, List}
use Rattle.rx_core.specs.declared.types.Bound.{Bound}
use Rattle.rx_typed.specs.declared.declarations.Decl.{Decl}
use Rattle.rx_typed.specs.Regions.{regions}
use Rattle.rx_region_outlives.specs.Implied.{ImpliesOf}
use Rattle.rx_lower_lifetimes.specs.Lowered.{lifetimes}
use Rattle.rx_lower.specs.Functions.{function}
use Rattle.rx_region.specs.Constraints.{Context}
use Rattle.rx_typeck_typed.specs.declared.typed.TypedFn.{TypedFn}

-- of each item, a list of exactly the pairs of its lifetimes that its fields ask
abbrev pub AreAsked : List Decl → (ℕ → List Bound) → Type 0
AreAsked D P = (i : ℕ) → ImpliesOf (regions D) i (P i)

abbrev pub context_of : List Decl → (ℕ → List Bound) → TypedFn → Context
context_of D P f = record { items = D; implied = P; lifetimes = lifetimes (function D f) }

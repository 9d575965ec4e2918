-- What the rules of types ask of types that are written (Rust Reference, "Type expressions").
use Rattle.std.specs.Prelude.{ℕ, List, [], ◌∷◌, Option, Some, None}
use Rattle.rx_typed.specs.declared.nodes.Node.{Node}
use Rattle.rx_typed.specs.Named as named
use Rattle.rx_typed.specs.Named.{Written, WrittenTypes, written_node}
use Rattle.rx_typeck_solver.specs.declared.facts.Rule.{Rule}
use Rattle.rx_typeck_solver.specs.declared.facts.Subject.{Subject}
use Rattle.rx_typeck_solver.specs.declared.facts.Op.{Op}
use Rattle.rx_typeck_solver.specs.declared.facts.Op.TheVariants as op
use Rattle.rx_typeck_solver.specs.declared.facts.Test.TheVariants as test
use Rattle.rx_typeck_typed.specs.Asking.{Asking, ◌>>◌, nothing, ask, type_of, is, passes}

abbrev pub written_nodes : WrittenTypes → List Subject
written_nodes named.no_written = []
written_nodes (named.written_and t ts) = type_of (written_node t) ∷ written_nodes ts

-- a type has none or all of its lifetimes
abbrev pub lifetimes_asked : Node → ℕ → Option ℕ → Asking
lifetimes_asked n i None = nothing
lifetimes_asked n i (Some k) = ask n Rule.Lifetimes (passes (test.HasLifetimes i k) [] ∷ [])

-- a node has the type that is made of these
abbrev pub written : Node → Op → List Subject → Asking
written n o xs = ask n Rule.Equal (is (type_of n) o xs ∷ [])

abbrev mutual
  pub of_type : Written → Asking
  of_type (named.a_kind n k) = written n (op.Integer k) []
  of_type (named.a_bool n) = written n op.Truth []
  of_type (named.a_tuple n ts) = of_types ts >> written n op.Tuple (written_nodes ts)
  of_type (named.a_reference n m t) = of_type t >> written n (op.Referring m) (type_of (written_node t) ∷ [])
  of_type (named.an_item n i ls) = lifetimes_asked n i ls >> written n (op.Item i) []

  pub of_types : WrittenTypes → Asking
  of_types named.no_written = nothing
  of_types (named.written_and t ts) = of_type t >> of_types ts

-- types keep the limits on parts and levels
abbrev pub limits : Node → Asking
limits n = ask n Rule.Parts (passes test.Limits (type_of n ∷ []) ∷ [])

-- a whole type
abbrev pub whole_type : Written → Asking
whole_type t = of_type t >> limits (written_node t)

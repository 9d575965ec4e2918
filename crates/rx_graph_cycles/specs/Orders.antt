-- An order of a graph's nodes, each behind all that it leads to.
use Rattle.std.specs.Prelude.{ℕ, ◌<◌, List, [], ◌∷◌, length}
use Rattle.rx_graph_cycles.specs.Reaches.{targets, IsIn}

-- each of these nodes leads to nodes alone that stand before it; in front of all stand those of the first list
abbrev pub Behind : List (List ℕ) → List ℕ → List ℕ → Type 0
Behind edges before [] = Unit {0}
Behind edges before (n ∷ ns) =
    ((j : ℕ) → j < length edges → IsIn (targets edges n) j → IsIn before j) × Behind edges (n ∷ before) ns

-- an order of all nodes
pub record InOrder (edges : List (List ℕ)) (order : List ℕ) : Type 0 where
  pub all : (n : ℕ) → n < length edges → IsIn order n
  pub behind : Behind edges [] order

-- What a node of a graph reaches. A graph has for each node, by its number from 0, the list of those that it leads to.
use Rattle.std.specs.Prelude.{◌≡◌, ℕ, ◌<◌, ◌⊎◌, List, [], ◌∷◌, Option, Some, None, slice_index_or}

-- the nodes that a node leads to; a number without a list leads nowhere
abbrev pub targets : List (List ℕ) → ℕ → List ℕ
targets edges n = slice_index_or edges n []

-- a number is one of these
abbrev pub IsIn : List ℕ → ℕ → Type 0
IsIn [] j = ⊥
IsIn (n ∷ ns) j = (n ≡ j) ⊎ IsIn ns j

-- one edge or more lead from i to j
pub data Reaches (edges : List (List ℕ)) : ℕ → ℕ → Type 0 where
  edge : {i j : ℕ} → IsIn (targets edges i) j → Reaches edges i j
  further : {i j k : ℕ} → IsIn (targets edges i) j → Reaches edges j k → Reaches edges i k

-- no node comes back to itself
abbrev pub NoCycle : List (List ℕ) → Type 0
NoCycle edges = (n : ℕ) → Reaches edges n n → ⊥

-- no node before this one comes back to itself
abbrev pub NoneBefore : List (List ℕ) → ℕ → Type 0
NoneBefore edges n = (m : ℕ) → m < n → Reaches edges m m → ⊥

-- the first node that comes back to itself; none where no node does
abbrev pub FirstOnCycle : List (List ℕ) → Option ℕ → Type 0
FirstOnCycle edges None = NoCycle edges
FirstOnCycle edges (Some n) = Reaches edges n n × NoneBefore edges n

-- The nodes of an item in the order of the text, and the number of each: how many stand in front of it, the item being the first.
-- (Rust Reference, "Items", "Statements and expressions": what stands in what.)
use Rattle.std.specs.Prelude.{ℕ, List, [], ◌∷◌, ◌++◌, length, take, map, Option, Some, None, slice_get}
use Rattle.rx_tree.specs.Plain.{ItemTree, ProgramTree}
use Rattle.rx_tree.specs.Positions.{NodeTree, an_item, children}
use Rattle.rx_tree.specs.Nodes.{below}

-- a node and those below it
abbrev pub within : NodeTree → List NodeTree
within n = n ∷ below n

abbrev pub within_all : List NodeTree → List NodeTree
within_all [] = []
within_all (n ∷ ns) = within n ++ within_all ns

-- those in front of the end of a way, from the node at its beginning on; a way that leads nowhere stops there
abbrev pub in_front : Option NodeTree → List ℕ → List NodeTree
in_front None ks = []
in_front (Some n) [] = []
in_front (Some n) (k ∷ ks) = n ∷ (within_all (take k (children n)) ++ in_front (slice_get (children n) k) ks)

-- the number of the node at a position
abbrev pub number_at : ProgramTree → ℕ → List ℕ → ℕ
number_at p item path = length (in_front (slice_get (map an_item p) item) path)

-- all nodes of an item, which its number tells
abbrev pub nodes_of : Option ItemTree → List NodeTree
nodes_of None = []
nodes_of (Some i) = within (an_item i)

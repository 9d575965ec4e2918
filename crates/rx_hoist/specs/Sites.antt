-- Nodes on the way to a run.
use Rattle.std.specs.Prelude.{List, [], ◌∷◌, Option, Some, None}
use Rattle.rx_tree.specs.declared.tree.Ident.{Ident}
use Rattle.rx_tree.specs.Plain.{Body, Expression}
use Rattle.rx_tree.specs.Positions.{NodeTree, a_block, an_expression}

abbrev pub as_node : Body → NodeTree
as_node b = a_block b

abbrev pub as_expression : Expression → NodeTree
as_expression e = an_expression e

-- the block that a node is; another one where it is none
abbrev pub block_or : Body → Option NodeTree → Body
block_or other (Some (a_block b)) = b
block_or other _ = other

abbrev pub listed_label : Option (Option Ident) → List (Option Ident)
listed_label None = []
listed_label (Some l) = l ∷ []

-- A node of the text and one of the tree with numbers that are one: of one kind, with one span, and with this number, which is how many
-- nodes of the function stand in front of it (Rust Reference, "Items", "Statements and expressions").
use Rattle.std.specs.Prelude.{◌≡◌, ℕ, List, length, Option, Some, None}
use Rattle.rx_core.specs.declared.types.Span.{Span}
use Rattle.rx_tree.specs.Positions.{NodeTree, an_item, a_type, a_block, a_statement, an_expression, a_pattern, descend}
use Rattle.rx_tree.specs.Spans.{node_span}
use Rattle.rx_typed.specs.declared.nodes.Node.{Node}
use Rattle.rx_typed.specs.Named.{written_node, pattern_node, node_of, body_node}
use Rattle.rx_hoist_nodes.specs.Nodes.{in_front}
use Rattle.rx_hoist_numbers.specs.NumberedNodes.{NumberedNode, the_item, the_type, the_block, the_statement, the_expression, the_pattern, statement_node}

abbrev pub HasNumber : Node → Span → ℕ → Type 0
HasNumber n s k = (n.number ≡ k) × (n.span ≡ s)

-- the item is node 0
abbrev pub IsNode : NodeTree → NumberedNode → ℕ → Type 0
IsNode (an_item i) (the_item f) k = k ≡ 0
IsNode (a_type t) (the_type w) k = HasNumber (written_node w) (node_span (a_type t)) k
IsNode (a_block b) (the_block d) k = HasNumber (body_node d) (node_span (a_block b)) k
IsNode (a_statement a) (the_statement d) k = HasNumber (statement_node d) (node_span (a_statement a)) k
IsNode (an_expression e) (the_expression d) k = HasNumber (node_of d) (node_span (an_expression e)) k
IsNode (a_pattern p) (the_pattern q) k = HasNumber (pattern_node q) (node_span (a_pattern p)) k
IsNode _ _ k = ⊥

-- where one way ends in both: at nodes that are one, or at none
abbrev pub AreNode : Option NodeTree → Option NumberedNode → ℕ → Type 0
AreNode None None k = Unit {0}
AreNode (Some n) (Some m) k = IsNode n m k
AreNode _ _ k = ⊥

-- a way from a node to that in front of which so many stand
pub record WayTo (n : NodeTree) (k : ℕ) : Type 0 where
  pub way : List ℕ
  pub node : NodeTree
  pub leads : descend (Some n) way ≡ Some node
  pub number : length (in_front (Some n) way) ≡ k

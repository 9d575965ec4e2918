-- The plain node of a node.
use Rattle.rx_tree_operations.specs.declared.positions.Node.{Node}
use Rattle.rx_tree_operations.specs.declared.positions.Node.TheVariants as node
use Rattle.rx_tree.specs.PlainOf.{plain-Item, plain-TypeText, plain-Block, plain-Stmt, plain-Expr, plain-Pattern}
use Rattle.rx_tree.specs.Positions.{NodeTree, an_item, a_type, a_block, a_statement, an_expression, a_pattern}

abbrev pub plain-Node : Node → NodeTree
plain-Node (node.Item i) = an_item (plain-Item i.now)
plain-Node (node.TypeText t) = a_type (plain-TypeText t.now)
plain-Node (node.Block b) = a_block (plain-Block b.now)
plain-Node (node.Stmt a) = a_statement (plain-Stmt a.now)
plain-Node (node.Expr e) = an_expression (plain-Expr e.now)
plain-Node (node.Pattern p) = a_pattern (plain-Pattern p.now)

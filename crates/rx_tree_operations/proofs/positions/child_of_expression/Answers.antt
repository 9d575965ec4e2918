use Rattle.std.proofs.Common.{option_map}
use Rattle.rx_tree.specs.PlainOf.{plain-Expr}
use Rattle.rx_tree_operations.specs.NodeOf.{plain-Node}
use Rattle.rx_tree_operations.specs.PlainParts.{plain-Parts}
use Rattle.rx_tree_operations.proofs.PartsNodes.{node_of_part}
use Rattle.rx_tree_operations.proofs.positions.child_of_expression.Goals as goal

pub returns : goal.returns
returns c = node_of_part (plain-Parts c.parts_of.result) (plain-Expr c.args.expr.now) c.args.number (option_map plain-Node c.part_in.result) c.parts_of.ensures c.part_in.ensures

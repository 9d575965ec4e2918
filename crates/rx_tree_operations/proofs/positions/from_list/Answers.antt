use Rattle.std.proofs.Common.{option_map}
use Rattle.rx_tree_operations.specs.Parts.{from_fields}
use Rattle.rx_tree_operations.specs.PlainParts.{plain-Parts}
use Rattle.rx_tree_operations.specs.NodeOf.{plain-Node}
use Rattle.rx_tree_operations.proofs.PartsNodes.{listed_front, listed_behind}
use Rattle.rx_tree_operations.proofs.positions.from_list.Goals as goal

pub returns-then-number-list : goal.returns-then-number-list
returns-then-number-list c = listed_front c.args.parts.list.now (from_fields (plain-Parts c.args.parts)) c.args.number (option_map plain-Node c.expression_in.result) c.if-number-list.true c.expression_in.ensures

pub returns-else-number-list : goal.returns-else-number-list
returns-else-number-list c = listed_behind c.args.parts.list.now (from_fields (plain-Parts c.args.parts)) c.args.number (option_map plain-Node c.from_fields.result) c.if-number-list.false c.from_fields.ensures

use Rattle.std.proofs.Common.{option_map, map}
use Rattle.rx_tree.specs.PlainOf.{plain-Arm, arms_of}
use Rattle.rx_tree.specs.Positions.{arm_nodes}
use Rattle.rx_tree_operations.specs.NodeOf.{plain-Node}
use Rattle.rx_tree_operations.proofs.PartsNodes.{fielded_front, fielded_behind}
use Rattle.rx_tree_operations.proofs.positions.from_fields.Goals as goal

pub returns-then-number-fields : goal.returns-then-number-fields
returns-then-number-fields c = fielded_front c.args.parts.fields.now (arm_nodes (arms_of (map plain-Arm c.args.parts.arms.now))) c.args.number (option_map plain-Node c.field_in.result) c.if-number-fields.true c.field_in.ensures

pub returns-else-number-fields : goal.returns-else-number-fields
returns-else-number-fields c = fielded_behind c.args.parts.fields.now (arm_nodes (arms_of (map plain-Arm c.args.parts.arms.now))) c.args.number (option_map plain-Node c.arm_part.result) c.if-number-fields.false c.arm_part.ensures

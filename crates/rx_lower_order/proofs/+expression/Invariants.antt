-- The invariants of the loops: the order of what is made, and what is left of the list behind it, is the order of the whole.
use Rattle.std.proofs.Common.{◌≡◌, map, drop}
use Rattle.rx_typed.specs.Tree.{Exp, Temporary}
use Rattle.rx_typed.specs.PlainTree.{plain-Operand, plain-Arm, plain-Stmt, operands_of, arms_of, nested_of}
use Rattle.rx_lower_walks.specs.Orders.{order_all, order_arms, order_body}
use Rattle.rx_lower_walks.specs.PlainFlow.{plain-Item, plain-Temporary}
use Rattle.rx_lower_order.specs.Items.{ordered}
use Rattle.rx_lower_order.specs.PlainParts.{plain-Subject}
use Rattle.rx_lower_order.proofs.+expression.Given as goal

abbrev pub invariant-expressions::operand_flows-loop-operand : goal.invariant-expressions::operand_flows-loop-operand
invariant-expressions::operand_flows-loop-operand l =
    ordered (map plain-Item l.items) (order_all (operands_of (map plain-Operand (drop l.operand-index l.operands))))
    ≡ order_all (operands_of (map plain-Operand l.fn.operands))

abbrev pub invariant-statements::arm_flows-loop-arm : goal.invariant-statements::arm_flows-loop-arm
invariant-statements::arm_flows-loop-arm l =
    ordered (map plain-Item l.items) (order_arms (plain-Subject l.subject) (arms_of (map plain-Arm (drop l.arm-index l.arms))) (plain-Temporary l.into))
    ≡ ordered (map plain-Item l.fn.before) (order_arms (plain-Subject l.fn.subject) (arms_of (map plain-Arm l.fn.arms)) (plain-Temporary l.fn.into))

abbrev pub invariant-statements::statement_items-loop-statement : goal.invariant-statements::statement_items-loop-statement
invariant-statements::statement_items-loop-statement l =
    (e : Exp) (d : Temporary) → ordered (map plain-Item l.items) (order_body (nested_of (map plain-Stmt (drop l.statement-index l.statements)) e) l.node d)
    ≡ order_body (nested_of (map plain-Stmt l.fn.statements) e) l.fn.node d

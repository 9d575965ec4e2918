use Rattle.std.proofs.Common.{◌++◌, [], map, ap, ◌∙◌}
use Rattle.rx_typed.specs.PlainTree.{plain-Pattern}
use Rattle.rx_lower_walks.specs.Matching.{tests}
use Rattle.rx_lower_walks.specs.PlainFlow.{plain-Item, plain-Temporary}
use Rattle.rx_lower_order.specs.Items.{test_items}
use Rattle.rx_lower_order.specs.PlainParts.{plain-Subject}
use Rattle.rx_lower_order.proofs.Turns.{operands_turn, operands_end, arms_turn, arms_end, arm_made}
use Rattle.rx_lower_order.proofs.+expression.Goals as goal

pub expressions::operand_flows-loop-operand-preserved : goal.expressions::operand_flows-loop-operand-preserved
expressions::operand_flows-loop-operand-preserved t c =
    operands_turn c.args.operands.now c.loop-operand.operand-index c.operand-item.result c.loop-operand.items c.in_ok-flow.before c.in_ok-items.items c.operand_flow.result c.in_ok-flow.flow _
    c.loop-operand-test.true c.operand-item.is c.in_ok-flow.ensures.0 c.in_ok-flow.ensures.1 c.operand_flow.ensures c.in_ok-items.ensures c.loop-operand.invariant

pub expressions::operand_flows-returns : goal.expressions::operand_flows-returns
expressions::operand_flows-returns t c =
    operands_end c.args.operands.now c.loop-operand.operand-index c.loop-operand.items c.sequence.result _ c.loop-operand-test.false c.loop-operand.invariant c.sequence.ensures

pub statements::arm_flows-loop-arm-preserved : goal.statements::arm_flows-loop-arm-preserved
statements::arm_flows-loop-arm-preserved t c =
    arms_turn (plain-Subject c.args.subject) (plain-Temporary c.args.into) c.args.arms.now c.loop-arm.arm-index c.arm-item.result c.loop-arm.items c.in_ok-flow.before c.in_ok-items.items c.arm_flow.result c.in_ok-flow.flow _
    c.loop-arm-test.true c.arm-item.is c.in_ok-flow.ensures.0 c.in_ok-flow.ensures.1 c.arm_flow.ensures c.in_ok-items.ensures c.loop-arm.invariant

pub statements::arm_flows-returns : goal.statements::arm_flows-returns
statements::arm_flows-returns t c =
    arms_end (plain-Subject c.args.subject) (plain-Temporary c.args.into) c.args.arms.now c.loop-arm.arm-index c.loop-arm.items c.sequence.result _ c.loop-arm-test.false c.loop-arm.invariant c.sequence.ensures

pub statements::arm_flow-returns : goal.statements::arm_flow-returns
statements::arm_flow-returns t c =
    let S = plain-Subject c.args.subject in
    arm_made S (plain-Temporary c.args.into) c.args.arm.now c.in_ok-items.items c.in_ok-items-2.items c.in_ok-body.items c.node_of.result c.expression.result c.sequence.result c.in_ok-body.body
    (c.in_ok-items.ensures ∙ ap (λ l. map plain-Item l ++ test_items S (tests [] (plain-Pattern c.args.arm.now.pattern))) c.new.ensures)
    c.node_of.ensures c.in_ok-items-2.ensures c.in_ok-body.ensures.0 c.in_ok-body.ensures.1 c.expression.ensures c.sequence.ensures

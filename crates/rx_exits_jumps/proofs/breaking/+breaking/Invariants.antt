use Rattle.std.proofs.Common.{◌≡◌, map, drop}
use Rattle.rx_typed.specs.PlainTree.{plain-Operand, plain-Arm, operands_of, arms_of}
use Rattle.rx_exits_plan.specs.PlainSyntax.{plain-Statement}
use Rattle.rx_exits_jumps.specs.Broken as broken
use Rattle.rx_exits_jumps.proofs.breaking.+breaking.Given as goal

abbrev pub invariant-breaks_in-loop-operand : goal.invariant-breaks_in-loop-operand
invariant-breaks_in-loop-operand l = broken.breaks_in l.number (operands_of (map plain-Operand (drop l.operand-index l.operands))) ≡ broken.breaks_in l.fn.number (operands_of (map plain-Operand l.fn.operands))

abbrev pub invariant-breaks_armed-loop-arm : goal.invariant-breaks_armed-loop-arm
invariant-breaks_armed-loop-arm l = broken.breaks_armed l.number (arms_of (map plain-Arm (drop l.arm-index l.arms))) ≡ broken.breaks_armed l.fn.number (arms_of (map plain-Arm l.fn.arms))

abbrev pub invariant-breaks_among-loop-stmt : goal.invariant-breaks_among-loop-stmt
invariant-breaks_among-loop-stmt l = broken.breaks_statements l.number (map plain-Statement (drop l.stmt-index l.stmts)) ≡ broken.breaks_statements l.fn.number (map plain-Statement l.fn.stmts)

use Rattle.std.proofs.Common.{◌≡◌, map, drop}
use Rattle.rx_typed.specs.PlainTree.{plain-Operand, plain-Arm, operands_of, arms_of}
use Rattle.rx_exits_plan.specs.Diverging as diverging
use Rattle.rx_exits_plan.specs.PlainSyntax.{plain-Statement}
use Rattle.rx_exits_jumps.proofs.diverging.+diverging.Given as goal

abbrev pub invariant-some_diverges-loop-operand : goal.invariant-some_diverges-loop-operand
invariant-some_diverges-loop-operand l = diverging.some_diverges (operands_of (map plain-Operand (drop l.operand-index l.operands))) ≡ diverging.some_diverges (operands_of (map plain-Operand l.fn.operands))

abbrev pub invariant-all_diverge-loop-arm : goal.invariant-all_diverge-loop-arm
invariant-all_diverge-loop-arm l = diverging.all_diverge (arms_of (map plain-Arm (drop l.arm-index l.arms))) ≡ diverging.all_diverge (arms_of (map plain-Arm l.fn.arms))

abbrev pub invariant-any_diverges-loop-stmt : goal.invariant-any_diverges-loop-stmt
invariant-any_diverges-loop-stmt l = diverging.any_diverges (map plain-Statement (drop l.stmt-index l.stmts)) ≡ diverging.any_diverges (map plain-Statement l.fn.stmts)

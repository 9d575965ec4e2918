use Rattle.std.proofs.Common.{◌≡◌, ◌++◌, map, drop}
use Rattle.rx_typed.specs.PlainTree.{plain-Operand, plain-Arm, operands_of, arms_of}
use Rattle.rx_exits_plan.specs.Occurrences.{occurrences_in, occurrences_armed, in_statements}
use Rattle.rx_exits_plan.specs.PlainSyntax.{plain-Statement}
use Rattle.rx_exits_occurrences.specs.PlainOccurrence.{plain-Occurrence}
use Rattle.rx_exits_occurrences.proofs.occurring.+occurring.Given as goal

abbrev pub invariant-push_operands-loop-operand : goal.invariant-push_operands-loop-operand
invariant-push_operands-loop-operand l =
    map plain-Occurrence l.found ++ occurrences_in (operands_of (map plain-Operand (drop l.operand-index l.operands))) ≡ map plain-Occurrence l.fn.found ++ occurrences_in (operands_of (map plain-Operand l.fn.operands))

abbrev pub invariant-push_arms-loop-arm : goal.invariant-push_arms-loop-arm
invariant-push_arms-loop-arm l = map plain-Occurrence l.found ++ occurrences_armed (arms_of (map plain-Arm (drop l.arm-index l.arms))) ≡ map plain-Occurrence l.fn.found ++ occurrences_armed (arms_of (map plain-Arm l.fn.arms))

abbrev pub invariant-push_statements-loop-stmt : goal.invariant-push_statements-loop-stmt
invariant-push_statements-loop-stmt l = map plain-Occurrence l.found ++ in_statements (map plain-Statement (drop l.stmt-index l.stmts)) ≡ map plain-Occurrence l.fn.found ++ in_statements (map plain-Statement l.fn.stmts)

use Rattle.std.proofs.Common.{◌≡◌, ◌++◌, map, drop}
use Rattle.rx_typed.specs.Tree.{Exp}
use Rattle.rx_typed.specs.PlainTree.{plain-Operand, plain-Arm, plain-Stmt, operands_of, arms_of, nested_of}
use Rattle.rx_hoist_diverging.specs.Diverging as spec
use Rattle.rx_hoist_diverging.proofs.diverging.+diverging.Given as goal

-- the numbers so far, and those of what is left

abbrev pub invariant-add_operands-loop-operand : goal.invariant-add_operands-loop-operand
invariant-add_operands-loop-operand l =
    l.all.items ++ spec.diverging_operands (operands_of (map plain-Operand (drop l.operand-index l.operands)))
    ≡ l.fn.all.items ++ spec.diverging_operands (operands_of (map plain-Operand l.fn.operands))

abbrev pub invariant-add_arms-loop-arm : goal.invariant-add_arms-loop-arm
invariant-add_arms-loop-arm l =
    l.all.items ++ spec.diverging_arms (arms_of (map plain-Arm (drop l.arm-index l.arms)))
    ≡ l.fn.all.items ++ spec.diverging_arms (arms_of (map plain-Arm l.fn.arms))

abbrev pub invariant-add_stmts-loop-stmt : goal.invariant-add_stmts-loop-stmt
invariant-add_stmts-loop-stmt l =
    (tail : Exp) → l.all.items ++ spec.diverging_body (nested_of (map plain-Stmt (drop l.stmt-index l.stmts)) tail) ≡ l.fn.all.items ++ spec.diverging_body (nested_of (map plain-Stmt l.fn.stmts) tail)

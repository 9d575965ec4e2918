-- Those that are passed do.
use Rattle.std.proofs.Common.{◌≡◌, drop, map}
use Rattle.rx_typed.specs.Tree.{Exp}
use Rattle.rx_typed.specs.PlainTree.{plain-Operand, plain-Arm, plain-Stmt, operands_of, arms_of, nested_of}
use Rattle.rx_engine_alike.specs.Units.{all_return_unit, arms_return_unit, body_returns_unit}
use Rattle.rx_engine_alike.proofs.units.+returned.Given as goal

abbrev pub invariant-all_return_unit-loop-operand : goal.invariant-all_return_unit-loop-operand
invariant-all_return_unit-loop-operand l =
    all_return_unit l.units (operands_of (map plain-Operand (drop l.operand-index l.operands))) ≡ all_return_unit l.units (operands_of (map plain-Operand l.operands))

abbrev pub invariant-arms_return_unit-loop-arm : goal.invariant-arms_return_unit-loop-arm
invariant-arms_return_unit-loop-arm l = arms_return_unit l.units (arms_of (map plain-Arm (drop l.arm-index l.arms))) ≡ arms_return_unit l.units (arms_of (map plain-Arm l.arms))

abbrev pub invariant-stmts_return_unit-loop-stmt : goal.invariant-stmts_return_unit-loop-stmt
invariant-stmts_return_unit-loop-stmt l =
    (e : Exp) → body_returns_unit l.units (nested_of (map plain-Stmt (drop l.stmt-index l.stmts)) e) ≡ body_returns_unit l.units (nested_of (map plain-Stmt l.stmts) e)

use Rattle.std.proofs.Common.{◌≡◌, map, drop}
use Rattle.rx_typed.specs.PlainTree.{plain-Operand, plain-Arm, operands_of, arms_of}
use Rattle.rx_exits_plan.specs.Blocks.{declared_by_all}
use Rattle.rx_exits_plan.specs.Spots.{spots_in, spots_armed}
use Rattle.rx_exits_plan.specs.Exits.{spots_in_statements}
use Rattle.rx_exits_plan.specs.PlainSyntax.{plain-Statement, plain-Around, grown}
use Rattle.rx_exits_jumps.specs.PlainSought.{plain-Sought, plain-Found}
use Rattle.rx_exits_jumps.specs.Seen.{with_spots}
use Rattle.rx_exits_jumps.proofs.seeing.+seeing.Given as goal

abbrev pub invariant-see_operands-loop-operand : goal.invariant-see_operands-loop-operand
invariant-see_operands-loop-operand l =
    (with_spots (plain-Sought l.sought) (plain-Found l.found) (spots_in (plain-Around l.around) (operands_of (map plain-Operand (drop l.operand-index l.operands))))
    ≡ with_spots (plain-Sought l.fn.sought) (plain-Found l.fn.found) (spots_in (plain-Around l.fn.around) (operands_of (map plain-Operand l.fn.operands))))
    × (l.around ≡ l.fn.around)

abbrev pub invariant-see_arms-loop-arm : goal.invariant-see_arms-loop-arm
invariant-see_arms-loop-arm l =
    (with_spots (plain-Sought l.sought) (plain-Found l.found) (spots_armed (plain-Around l.around) (arms_of (map plain-Arm (drop l.arm-index l.arms))))
    ≡ with_spots (plain-Sought l.fn.sought) (plain-Found l.fn.found) (spots_armed (plain-Around l.fn.around) (arms_of (map plain-Arm l.fn.arms))))
    × (l.around ≡ l.fn.around)

abbrev pub invariant-see_stmts-loop-stmt : goal.invariant-see_stmts-loop-stmt
invariant-see_stmts-loop-stmt l =
    (with_spots (plain-Sought l.sought) (plain-Found l.found) (spots_in_statements (plain-Around l.around) (map plain-Statement (drop l.stmt-index l.stmts)))
    ≡ with_spots (plain-Sought l.fn.sought) (plain-Found l.fn.found) (spots_in_statements (plain-Around l.fn.around) (map plain-Statement l.fn.stmts)))
    × (grown l.around (declared_by_all (map plain-Statement (drop l.stmt-index l.stmts))) ≡ grown l.fn.around (declared_by_all (map plain-Statement l.fn.stmts)))

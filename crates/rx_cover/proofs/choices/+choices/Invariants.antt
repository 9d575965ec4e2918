use Rattle.std.proofs.Common.{◌≡◌, ◌++◌, map, drop}
use Rattle.rx_typed.specs.PlainTree.{plain-Operand, plain-Arm, plain-Stmt, operands_of, arms_of}
use Rattle.rx_cover.specs.Choices.{choices_among, choices_behind}
use Rattle.rx_cover.specs.PlainChoices.{plain-Choice, stmts_choices}
use Rattle.rx_cover.proofs.choices.+choices.Given as goal

abbrev pub invariant-add_operands-loop-operand : goal.invariant-add_operands-loop-operand
invariant-add_operands-loop-operand l = map plain-Choice l.found ++ choices_among (operands_of (map plain-Operand (drop l.operand-index l.operands))) ≡ map plain-Choice l.fn.found ++ choices_among (operands_of (map plain-Operand l.fn.operands))

abbrev pub invariant-add_arms-loop-arm : goal.invariant-add_arms-loop-arm
invariant-add_arms-loop-arm l = map plain-Choice l.found ++ choices_behind (arms_of (map plain-Arm (drop l.arm-index l.arms))) ≡ map plain-Choice l.fn.found ++ choices_behind (arms_of (map plain-Arm l.fn.arms))

abbrev pub invariant-add_stmts-loop-stmt : goal.invariant-add_stmts-loop-stmt
invariant-add_stmts-loop-stmt l = map plain-Choice l.found ++ stmts_choices (map plain-Stmt (drop l.stmt-index l.stmts)) ≡ map plain-Choice l.fn.found ++ stmts_choices (map plain-Stmt l.fn.stmts)

use Rattle.std.proofs.Common.{◌≡◌, take}
use Rattle.rx_tree_operations.proofs.copying_expressions.+copy_expressions.Given as goal

abbrev pub invariant-arms-loop-arm : goal.invariant-arms-loop-arm
invariant-arms-loop-arm l = l.all ≡ take l.arm-index l.arm-items

abbrev pub invariant-fields-loop-field : goal.invariant-fields-loop-field
invariant-fields-loop-field l = l.all ≡ take l.field-index l.field-items

abbrev pub invariant-listed-loop-expr : goal.invariant-listed-loop-expr
invariant-listed-loop-expr l = l.all ≡ take l.expr-index l.expr-items

abbrev pub invariant-statements-loop-stmt : goal.invariant-statements-loop-stmt
invariant-statements-loop-stmt l = l.all ≡ take l.stmt-index l.stmt-items

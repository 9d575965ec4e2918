use Rattle.std.proofs.Common.{◌≡◌, ◌++◌, map, drop}
use Rattle.rx_typed.specs.Tree as tree
use Rattle.rx_typed.specs.PlainTree.{plain-Operand, operands_of}
use Rattle.rx_lower_order.proofs.operands.fields_of.Given as goal

abbrev pub invariant-loop-operand : goal.invariant-loop-operand
invariant-loop-operand l = l.all.items ++ tree.fields_of (operands_of (map plain-Operand (drop l.operand-index l.operands))) ≡ tree.fields_of (operands_of (map plain-Operand l.fn.operands))

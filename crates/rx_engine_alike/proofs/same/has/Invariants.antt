-- Those that are passed are for others.
use Rattle.std.proofs.Common.{◌≡◌, drop, map}
use Rattle.rx_typed.specs.Tree.{fields_of}
use Rattle.rx_typed.specs.PlainTree.{plain-Operand, operands_of}
use Rattle.rx_engine_alike.specs.Same.{has}
use Rattle.rx_engine_alike.proofs.same.has.Given as goal

abbrev pub invariant-loop-operand : goal.invariant-loop-operand
invariant-loop-operand l = has (fields_of (operands_of (map plain-Operand (drop l.operand-index l.operands)))) l.field ≡ has (fields_of (operands_of (map plain-Operand l.operands))) l.field

-- What is left of both is taken, from this field on, where all of it is.
use Rattle.std.proofs.Common.{◌≡◌, drop, map}
use Rattle.rx_typed.specs.PlainTree.{plain-Operand, operands_of}
use Rattle.rx_engine_alike.specs.Giving.{takes_all}
use Rattle.rx_engine_alike.proofs.giving.takes_all.Given as goal

abbrev pub invariant-loop-field : goal.invariant-loop-field
invariant-loop-field l =
    takes_all l.field (drop l.field l.variables) (operands_of (map plain-Operand l.right)) ≡ takes_all 0 l.fn.variables (operands_of (map plain-Operand l.fn.operands))

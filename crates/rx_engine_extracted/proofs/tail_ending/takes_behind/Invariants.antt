-- What is left of both is taken, from the field behind this one on, where all of it is.
use Rattle.std.proofs.Common.{◌≡◌, ◌+◌, drop, map}
use Rattle.rx_typed.specs.PlainTree.{plain-Operand, operands_of}
use Rattle.rx_engine_alike.specs.Giving.{takes_all}
use Rattle.rx_engine_extracted.proofs.tail_ending.takes_behind.Given as goal

abbrev pub invariant-loop-index : goal.invariant-loop-index
invariant-loop-index l =
    takes_all (l.index + 1) (drop l.index l.variables) (operands_of (map plain-Operand l.right)) ≡ takes_all 1 l.fn.variables (operands_of (map plain-Operand l.fn.operands))

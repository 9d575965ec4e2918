-- There is one for each field so far.
use Rattle.std.proofs.Common.{◌≡◌, ◌-◌, map, length}
use Rattle.rx_typed.specs.Tree.{fields_of}
use Rattle.rx_typed.specs.PlainTree.{plain-Operand, operands_of}
use Rattle.rx_engine_alike.specs.Same.{has_all, is_complete}
use Rattle.rx_engine_alike.proofs.same.is_complete.Given as goal

abbrev pub invariant-loop-field : goal.invariant-loop-field
invariant-loop-field l =
    has_all (fields_of (operands_of (map plain-Operand l.operands))) (length l.operands - l.field) l.field
    ≡ has_all (fields_of (operands_of (map plain-Operand l.operands))) (length l.operands) 0

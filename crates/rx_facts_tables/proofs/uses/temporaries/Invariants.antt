use Rattle.std.proofs.Common.{◌≡◌, ◌++◌, drop, map}
use Rattle.rx_typed.specs.Tree as tree
use Rattle.rx_lower_walks.specs.PlainFlow.{plain-Root, plain-Temporary}
use Rattle.rx_facts_tables.proofs.uses.temporaries.Given as goal

abbrev pub invariant-loop-operand : goal.invariant-loop-operand
invariant-loop-operand l = map plain-Root l.all ++ map tree.temporary (map plain-Temporary (drop l.operand-index l.operands))
    ≡ map tree.temporary (map plain-Temporary l.operands)

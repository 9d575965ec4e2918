-- The copies so far are those of the elements so far.
use Rattle.std.proofs.Common.{◌≡◌, ◌++◌, map, take}
use Rattle.rx_typed.specs.PlainTree.{plain-Operand, plain-Arm}
use Rattle.rx_exits_plan.specs.Changed.{changed, changed_statement}
use Rattle.rx_exits_tree.specs.Changing.{changes_of}
use Rattle.rx_exits_tree.specs.Shapes.{plain-Statement}
use Rattle.rx_exits_tree.proofs.+expression.Given as goal

abbrev pub invariant-expressions::all-loop-operand : goal.invariant-expressions::all-loop-operand
invariant-expressions::all-loop-operand l =
    map plain-Operand l.copies ≡ map (λ x. ((plain-Operand x).0, changed (changes_of l.change) (plain-Operand x).1)) (take l.operand-index l.operands)

abbrev pub invariant-statements::arms-loop-each : goal.invariant-statements::arms-loop-each
invariant-statements::arms-loop-each l =
    map plain-Arm l.copies ≡ map (λ x. ((plain-Arm x).0, changed (changes_of l.change) (plain-Arm x).1)) (take l.each-index l.arms)

abbrev pub invariant-statements::statements-loop-each : goal.invariant-statements::statements-loop-each
invariant-statements::statements-loop-each l =
    map plain-Statement l.copies ≡ map plain-Statement l.fn.held ++ map (λ x. changed_statement (changes_of l.change) (plain-Statement x)) (take l.each-index l.statements)

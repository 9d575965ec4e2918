-- The mark, and the uses so far.
use Rattle.std.proofs.Common.{◌≡◌, ◌++◌, map, take}
use Rattle.rx_exits_plan.specs.Marked.{entering}
use Rattle.rx_exits_tree.specs.Shapes.{plain-Statement}
use Rattle.rx_exits_tree.proofs.marks.entering.Given as goal

abbrev pub invariant-loop-variable : goal.invariant-loop-variable
invariant-loop-variable l = map plain-Statement l.all ≡ map plain-Statement l.fn.held ++ entering (take l.variable-index l.used)

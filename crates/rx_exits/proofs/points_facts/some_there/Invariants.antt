use Rattle.std.proofs.Common.{take}
use Rattle.rx_exits.specs.Facts.{NoneThere}
use Rattle.rx_exits.proofs.points_facts.some_there.Given as goal

abbrev pub invariant-loop-mark : goal.invariant-loop-mark
invariant-loop-mark l = NoneThere l.table.rows (take l.mark-index l.marks) l.point l.range.first l.range.count

use Rattle.std.proofs.Common.{take}
use Rattle.rx_exits.specs.Facts.{IsUnmarked}
use Rattle.rx_exits.proofs.run_points.is_marked.Given as goal

abbrev pub invariant-loop-mark : goal.invariant-loop-mark
invariant-loop-mark l = IsUnmarked (take l.mark-index l.marks) l.point

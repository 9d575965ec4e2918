-- The jump leads where it leads from those that are left.
use Rattle.std.proofs.Common.{◌≡◌, ◌≤◌, [], take, length}
use Rattle.rx_hoist_extraction.specs.Moved.{leaves}
use Rattle.rx_hoist_changes.specs.Standing.{around_behind}
use Rattle.rx_hoist_changes.proofs.jumps.loop_left.Given as goal

abbrev pub invariant-loop-left : goal.invariant-loop-left
invariant-loop-left l = record {
  same : leaves l.fn.wanted (around_behind [] (take l.left l.fn.around)) ≡ leaves l.fn.wanted (around_behind [] l.fn.around);
  within : l.left ≤ length l.fn.around;
}

abbrev pub decreases-loop-left : goal.decreases-loop-left
decreases-loop-left l = l.left

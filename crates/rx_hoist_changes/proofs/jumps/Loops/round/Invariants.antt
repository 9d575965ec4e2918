-- The loops outside of those that are left are there, with their numbers.
use Rattle.std.proofs.Common.{◌≡◌, ◌≤◌, suc, [], map, drop, length, option_map}
use Rattle.rx_hoist_extraction.specs.Run.{numbered}
use Rattle.rx_hoist_changes.specs.Standing.{around_behind}
use Rattle.rx_hoist_changes.proofs.jumps.Loops.round.Given as goal

abbrev pub invariant-loop-left : goal.invariant-loop-left
invariant-loop-left l = record {
  behind : around_behind [] l.around.items ≡ numbered (suc l.left) (map (option_map (λ i. i.now)) (drop l.left l.labels));
  within : l.left ≤ length l.labels;
}

abbrev pub decreases-loop-left : goal.decreases-loop-left
decreases-loop-left l = l.left

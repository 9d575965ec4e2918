-- It is one of all exactly where it is one of those that are left.
use Rattle.std.proofs.Common.{◌≡◌, drop}
use Rattle.rx_exits_plan.specs.Marked.{is_among}
use Rattle.rx_exits_tree.proofs.marks.is_loop_of.Given as goal

abbrev pub invariant-loop-other : goal.invariant-loop-other
invariant-loop-other l = is_among l.number (drop l.other-index l.loops) ≡ is_among l.number l.loops

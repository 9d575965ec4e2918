use Rattle.std.proofs.Common.{◌≡◌, drop}
use Rattle.rx_lower_walks.specs.Around.{depth_in}
use Rattle.rx_lower_walks.proofs.around.depth_in.Given as goal

abbrev pub invariant-loop-one : goal.invariant-loop-one
invariant-loop-one l = depth_in l.found l.number (drop l.one-index l.loops) ≡ depth_in 0 l.number l.loops

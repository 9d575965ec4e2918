use Rattle.std.proofs.Common.{◌≡◌, [], drop}
use Rattle.rx_lower_walks.specs.Around.{head_in}
use Rattle.rx_lower_walks.proofs.around.head_in.Given as goal

abbrev pub invariant-loop-one : goal.invariant-loop-one
invariant-loop-one l = head_in l.found l.number (drop l.one-index l.loops) ≡ head_in [] l.number l.loops

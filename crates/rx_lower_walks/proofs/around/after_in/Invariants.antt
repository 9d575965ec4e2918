use Rattle.std.proofs.Common.{◌≡◌, [], drop}
use Rattle.rx_lower_walks.specs.Around.{after_in}
use Rattle.rx_lower_walks.proofs.around.after_in.Given as goal

abbrev pub invariant-loop-one : goal.invariant-loop-one
invariant-loop-one l = after_in l.found l.number (drop l.one-index l.loops) ≡ after_in [] l.number l.loops

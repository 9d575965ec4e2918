use Rattle.std.proofs.Common.{◌≡◌, ◌<◌}
use Rattle.rx_tests_passes.proofs.trying.search.Search.+extend.Given as goal

abbrev pub decreases-extend : goal.decreases-extend
decreases-extend l = l.left

abbrev pub invariant-loop-number : goal.invariant-loop-number
invariant-loop-number l = (l.left ≡ l.fn.left) × (0 < l.left)

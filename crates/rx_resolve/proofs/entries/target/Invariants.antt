use Rattle.std.proofs.Common.{◌≡◌, ◌≤◌, [], take, length}
use Rattle.rx_resolve_names.specs.Meant.{target}
use Rattle.rx_resolve.specs.Walks.{around_from}
use Rattle.rx_resolve.proofs.WalkLemmas.{beyond}
use Rattle.rx_resolve.proofs.entries.target.Given as goal

abbrev pub invariant-loop-left : goal.invariant-loop-left
invariant-loop-left l = (beyond l.tested (target l.fn.wanted (around_from [] (take l.left l.fn.around))) ≡ target l.fn.wanted (around_from [] l.fn.around)) × (l.left ≤ length l.fn.around)

abbrev pub decreases-loop-left : goal.decreases-loop-left
decreases-loop-left l = l.left

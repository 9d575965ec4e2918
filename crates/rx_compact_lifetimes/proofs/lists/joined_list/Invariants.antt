use Rattle.std.proofs.Common.{◌≡◌, ◌++◌, drop}
use Rattle.rx_compact_lifetimes.specs.Merged.{joined, joined_list}
use Rattle.rx_compact_lifetimes.specs.Steps.{names}
use Rattle.rx_compact_lifetimes.proofs.lists.joined_list.Given as goal

abbrev pub invariant-loop-lifetime : goal.invariant-loop-lifetime
invariant-loop-lifetime l = l.all ++ joined l.lifetimes (names l.all) (drop l.lifetime-index l.lifetimes) ≡ joined_list l.lifetimes

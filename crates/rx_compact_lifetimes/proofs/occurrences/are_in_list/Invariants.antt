use Rattle.std.proofs.Common.{◌≡◌, drop}
use Rattle.rx_compact_lifetimes.specs.Elided.{are_all}
use Rattle.rx_compact_lifetimes.proofs.occurrences.are_in_list.Given as goal

abbrev pub invariant-loop-lifetime : goal.invariant-loop-lifetime
invariant-loop-lifetime l = are_all l.name (drop l.lifetime-index l.lifetimes) ≡ are_all l.name l.lifetimes

use Rattle.std.proofs.Common.{◌≡◌, [], drop}
use Rattle.rx_compact_lifetimes.specs.Merged.{bounds_for}
use Rattle.rx_compact_lifetimes.specs.Steps.{with_bounds}
use Rattle.rx_compact_lifetimes.proofs.lists.bounds_of.Given as goal

abbrev pub invariant-loop-lifetime : goal.invariant-loop-lifetime
invariant-loop-lifetime l = with_bounds l.name l.all (bounds_for l.name (drop l.lifetime-index l.lifetimes)) ≡ with_bounds l.name [] (bounds_for l.name l.lifetimes)

use Rattle.std.proofs.Common.{◌≡◌, drop}
use Rattle.rx_hoist_extraction.specs.Names.{is_among}
use Rattle.rx_compact_lifetimes.specs.Elided.{in_bounds}
use Rattle.rx_compact_lifetimes.proofs.occurrences.is_in_bounds.Given as goal

abbrev pub invariant-loop-lifetime : goal.invariant-loop-lifetime
invariant-loop-lifetime l = is_among l.name (in_bounds (drop l.lifetime-index l.lifetimes)) ≡ is_among l.name (in_bounds l.lifetimes)

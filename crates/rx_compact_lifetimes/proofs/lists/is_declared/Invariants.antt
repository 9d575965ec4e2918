use Rattle.std.proofs.Common.{◌≡◌, drop}
use Rattle.rx_hoist_extraction.specs.Names.{is_among}
use Rattle.rx_compact_lifetimes.specs.Steps.{names}
use Rattle.rx_compact_lifetimes.proofs.lists.is_declared.Given as goal

abbrev pub invariant-loop-lifetime : goal.invariant-loop-lifetime
invariant-loop-lifetime l = is_among l.name (names (drop l.lifetime-index l.lifetimes)) ≡ is_among l.name (names l.lifetimes)

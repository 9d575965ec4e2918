use Rattle.std.proofs.Common.{◌≡◌, ◌+◌, ◌<◌, drop}
use Rattle.rx_typed.specs.Numbers.{capped}
use Rattle.rx_compact_lifetimes.specs.Elided.{times}
use Rattle.rx_compact_lifetimes.proofs.occurrences.times_in_list.Given as goal

abbrev pub invariant-loop-lifetime : goal.invariant-loop-lifetime
invariant-loop-lifetime l = record {
  whole : capped (l.total + times l.name (drop l.lifetime-index l.lifetimes)) ≡ capped (l.fn.before + times l.name l.lifetimes);
  fits : l.total < 18446744073709551616;
}

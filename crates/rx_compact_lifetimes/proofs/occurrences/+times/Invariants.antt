use Rattle.std.proofs.Common.{◌≡◌, ◌+◌, ◌<◌, drop}
use Rattle.rx_typed.specs.Numbers.{capped}
use Rattle.rx_compact_lifetimes.proofs.Occurring.{in_types}
use Rattle.rx_compact_lifetimes.proofs.occurrences.+times.Given as goal

abbrev pub invariant-times_in_all-loop-typ : goal.invariant-times_in_all-loop-typ
invariant-times_in_all-loop-typ l = record {
  whole : capped (l.total + in_types l.name (drop l.typ-index l.types)) ≡ capped (l.fn.before + in_types l.name l.types);
  fits : l.total < 18446744073709551616;
}

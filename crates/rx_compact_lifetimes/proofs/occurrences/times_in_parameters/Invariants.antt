use Rattle.std.proofs.Common.{◌≡◌, ◌+◌, ◌<◌, drop}
use Rattle.rx_typed.specs.Numbers.{capped}
use Rattle.rx_compact_lifetimes.proofs.Occurring.{in_params}
use Rattle.rx_compact_lifetimes.proofs.occurrences.times_in_parameters.Given as goal

abbrev pub invariant-loop-param : goal.invariant-loop-param
invariant-loop-param l = record {
  whole : capped (l.total + in_params l.name (drop l.param-index l.params)) ≡ capped (in_params l.name l.params);
  fits : l.total < 18446744073709551616;
}

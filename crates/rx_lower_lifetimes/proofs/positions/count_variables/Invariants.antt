use Rattle.std.proofs.Common.{◌≡◌, ◌+◌, ◌<◌, map, drop}
use Rattle.rx_typed.specs.Numbers.{capped}
use Rattle.rx_lower_lifetimes.specs.Positions.{in_variables}
use Rattle.rx_lower_lifetimes.specs.PlainOf.{plain-Open}
use Rattle.rx_lower_lifetimes.proofs.positions.count_variables.Given as goal

abbrev pub invariant-loop-one : goal.invariant-loop-one
invariant-loop-one l = record {
  whole : capped (l.total + in_variables (map plain-Open (drop l.one-index l.variables))) ≡ capped (l.fn.before + in_variables (map plain-Open l.fn.variables));
  fits : l.total < 18446744073709551616;
}

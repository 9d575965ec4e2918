use Rattle.std.proofs.Common.{◌≡◌, ◌+◌, ◌<◌, map, drop}
use Rattle.rx_typed.specs.Numbers.{capped}
use Rattle.rx_lower_lifetimes.specs.Positions.{in_held}
use Rattle.rx_lower_lifetimes.specs.PlainOf.{plain-Held}
use Rattle.rx_lower_lifetimes.proofs.positions.count_held.Given as goal

abbrev pub invariant-loop-one : goal.invariant-loop-one
invariant-loop-one l = record {
  whole : capped (l.total + in_held (map plain-Held (drop l.one-index l.held))) ≡ capped (l.fn.before + in_held (map plain-Held l.fn.held));
  fits : l.total < 18446744073709551616;
}

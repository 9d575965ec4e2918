use Rattle.std.proofs.Common.{◌≡◌, drop}
use Rattle.rx_typed.specs.Naming.{has_bounds}
use Rattle.rx_typeck_elaborate_parts.proofs.parameters.has_bounds.Given as goal

abbrev pub invariant-loop-lifetime : goal.invariant-loop-lifetime
invariant-loop-lifetime l = has_bounds (drop l.lifetime-index l.lifetimes) ≡ has_bounds l.fn.lifetimes

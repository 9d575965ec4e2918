use Rattle.std.proofs.Common.{◌≡◌, map, drop}
use Rattle.rx_lower_lifetimes.specs.Variables.{written_type}
use Rattle.rx_lower_lifetimes.specs.PlainOf.{plain-Told}
use Rattle.rx_lower_lifetimes.proofs.variables.written_type.Given as goal

abbrev pub invariant-loop-i : goal.invariant-loop-i
invariant-loop-i l = written_type (map plain-Told (drop l.i l.written)) l.variable ≡ written_type (map plain-Told l.fn.written) l.fn.variable

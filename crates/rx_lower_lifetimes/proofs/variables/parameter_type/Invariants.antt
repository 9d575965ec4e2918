use Rattle.std.proofs.Common.{◌≡◌, map, drop}
use Rattle.rx_typed.specs.PlainTree.{plain-Param}
use Rattle.rx_lower_lifetimes.specs.Variables.{parameter_type}
use Rattle.rx_lower_lifetimes.proofs.variables.parameter_type.Given as goal

abbrev pub invariant-loop-i : goal.invariant-loop-i
invariant-loop-i l = parameter_type (map plain-Param (drop l.i l.params)) (drop l.i l.types) l.variable ≡ parameter_type (map plain-Param l.fn.params) l.fn.types l.fn.variable

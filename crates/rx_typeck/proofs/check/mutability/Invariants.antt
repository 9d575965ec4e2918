use Rattle.std.proofs.Common.{◌≡◌, ◌++◌, map, drop}
use Rattle.rx_typeck_typed.specs.Typing.{is_mutable}
use Rattle.rx_typeck.proofs.check.mutability.Given as goal

abbrev pub invariant-loop-variable : goal.invariant-loop-variable
invariant-loop-variable l = l.all.items ++ map is_mutable (drop l.variable-index l.variables) ≡ map is_mutable l.fn.variables

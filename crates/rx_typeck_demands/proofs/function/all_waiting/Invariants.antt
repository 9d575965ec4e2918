use Rattle.std.proofs.Common.{◌≡◌, ◌++◌, drop}
use Rattle.rx_typed.specs.Naming.{all_waiting}
use Rattle.rx_typeck_demands.proofs.function.all_waiting.Given as goal

abbrev pub invariant-loop-variable : goal.invariant-loop-variable
invariant-loop-variable l = l.waiting.items ++ all_waiting (drop l.variable-index l.variables) ≡ all_waiting l.fn.variables

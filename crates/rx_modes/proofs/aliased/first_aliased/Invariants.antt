use Rattle.std.proofs.Common.{◌≡◌, drop}
use Rattle.rx_modes.specs.Told.{first_such, is_aliased}
use Rattle.rx_modes.proofs.aliased.first_aliased.Given as goal

abbrev pub invariant-loop-variable : goal.invariant-loop-variable
invariant-loop-variable l = first_such (is_aliased l.known) (drop l.variable-index l.variables) ≡ first_such (is_aliased l.known) l.variables

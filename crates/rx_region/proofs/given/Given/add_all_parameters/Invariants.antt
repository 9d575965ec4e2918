use Rattle.std.proofs.Common.{◌≡◌, ◌++◌, drop}
use Rattle.rx_region.specs.Known.{parameters_ask}
use Rattle.rx_region.specs.PlainContext.{plain-Given}
use Rattle.rx_region.proofs.given.Given.add_all_parameters.Given as goal

abbrev pub invariant-loop-variable : goal.invariant-loop-variable
invariant-loop-variable l = l.pairs ++ parameters_ask (plain-Given l.self) (drop l.variable-index l.variables) ≡ l.fn.pairs ++ parameters_ask (plain-Given l.fn.self) l.fn.variables

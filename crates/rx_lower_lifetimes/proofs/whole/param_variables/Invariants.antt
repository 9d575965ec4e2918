use Rattle.std.proofs.Common.{◌≡◌, ◌++◌, map, drop}
use Rattle.rx_typed.specs.PlainTree.{plain-Param}
use Rattle.rx_lower_lifetimes.proofs.whole.param_variables.Given as goal

abbrev pub invariant-loop-param : goal.invariant-loop-param
invariant-loop-param l = l.all ++ map (λ p. p.variable) (map plain-Param (drop l.param-index l.params)) ≡ map (λ p. p.variable) (map plain-Param l.fn.params)

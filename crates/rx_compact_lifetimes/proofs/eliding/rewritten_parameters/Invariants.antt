use Rattle.std.proofs.Common.{◌≡◌, map, take}
use Rattle.rx_tree.specs.PlainOf.{plain-Param}
use Rattle.rx_compact_lifetimes.specs.Rewritten.{rewritten_parameter}
use Rattle.rx_compact_lifetimes.proofs.eliding.rewritten_parameters.Given as goal

abbrev pub invariant-loop-param : goal.invariant-loop-param
invariant-loop-param l = map plain-Param l.all ≡ map (rewritten_parameter l.rewritings) (map plain-Param (take l.param-index l.params))

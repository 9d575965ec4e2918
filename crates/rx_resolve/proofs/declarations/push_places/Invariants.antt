use Rattle.std.proofs.Common.{◌≡◌, ◌++◌, map, drop}
use Rattle.rx_tree.specs.PlainOf.{plain-Param}
use Rattle.rx_resolve_names.specs.Items.{numbers_from}
use Rattle.rx_resolve.proofs.declarations.push_places.Given as goal

abbrev pub invariant-loop-param : goal.invariant-loop-param
invariant-loop-param l = l.numbers ++ numbers_from l.place (map plain-Param (drop l._param-index l.params)) ≡ l.fn.numbers ++ numbers_from 0 (map plain-Param l.fn.params)

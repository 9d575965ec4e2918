use Rattle.std.proofs.Common.{◌≡◌, ◌++◌, map, drop}
use Rattle.rx_typed.specs.PlainTree.{plain-Param}
use Rattle.rx_lower_lifetimes.specs.Variables.{open_types}
use Rattle.rx_lower_lifetimes.specs.PlainOf.{plain-Open, plain-Told}
use Rattle.rx_lower_lifetimes.proofs.variables.open_types.Given as goal

abbrev pub invariant-loop-raw : goal.invariant-loop-raw
invariant-loop-raw l =
    map plain-Open l.all ++ open_types l.own (map plain-Param l.params) l.types (map plain-Told l.written) l.variable (drop l.raw-index l.raws)
    ≡ open_types l.fn.own (map plain-Param l.fn.params) l.fn.types (map plain-Told l.fn.written) 0 l.fn.raws

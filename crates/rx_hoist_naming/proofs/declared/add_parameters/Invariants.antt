use Rattle.std.proofs.Common.{◌≡◌, ◌++◌, map, drop}
use Rattle.rx_tree.specs.Plain.{Parameter}
use Rattle.rx_tree.specs.PlainOf.{plain-Param}
use Rattle.rx_hoist_naming.proofs.declared.add_parameters.Given as goal

-- the names so far, and those of the parameters that are left
abbrev pub invariant-loop-param : goal.invariant-loop-param
invariant-loop-param l =
    map (λ x. x.now) l.names.items ++ map (λ (x : Parameter). x.name.name) (map plain-Param (drop l.param-index l.params))
    ≡ map (λ x. x.now) l.fn.names.items ++ map (λ (x : Parameter). x.name.name) (map plain-Param l.fn.params)

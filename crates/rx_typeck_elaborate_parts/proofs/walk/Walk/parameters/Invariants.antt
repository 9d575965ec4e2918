use Rattle.std.proofs.Common.{◌≡◌, ◌++◌, map, drop}
use Rattle.rx_tree.specs.PlainOf.{plain-Param as plain-ParamTree}
use Rattle.rx_typed.specs.Naming.{of_parameters}
use Rattle.rx_typed.specs.Elaborated as elaborated
use Rattle.rx_typed.specs.PlainTree.{plain-Param}
use Rattle.rx_typeck_elaborate_parts.specs.Walks.{moved}
use Rattle.rx_typeck_elaborate_parts.proofs.walk.Walk.parameters.Given as goal

abbrev pub invariant-loop-param : goal.invariant-loop-param
invariant-loop-param l =
    let left = of_parameters (map plain-ParamTree (drop l.param-index l.params)) l.self.cursor in
    let whole = of_parameters (map plain-ParamTree l.fn.params) l.fn.self.cursor in
    (map plain-Param l.all ++ elaborated.parameters left.0 ≡ elaborated.parameters whole.0) × (moved left.1 l.self ≡ moved whole.1 l.fn.self)

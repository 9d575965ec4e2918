use Rattle.std.proofs.Common.{◌≡◌, [], map, drop}
use Rattle.rx_tree.specs.PlainOf.{plain-Param}
use Rattle.rx_resolve_names.specs.Items.{in_parameters}
use Rattle.rx_resolve.specs.Walks.{inside, with_tables}
use Rattle.rx_resolve.proofs.walk.Walk.parameters.Given as goal

abbrev pub invariant-loop-param : goal.invariant-loop-param
invariant-loop-param l =
    (in_parameters (inside l.fn.self) l.fn.self.path l.child (map plain-Param (drop l.param-index l.params)) (record { bindings = l.seen; tables = l.self.tables })
    ≡ in_parameters (inside l.fn.self) l.fn.self.path 0 (map plain-Param l.fn.params) (record { bindings = []; tables = l.fn.self.tables }))
    × (l.self ≡ with_tables l.self.tables l.fn.self)

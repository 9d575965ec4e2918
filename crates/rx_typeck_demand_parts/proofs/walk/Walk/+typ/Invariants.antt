use Rattle.std.proofs.Common.{◌≡◌, ◌++◌, map, drop}
use Rattle.rx_tree.specs.PlainOf.{plain-TypeText, types_of}
use Rattle.rx_typed.specs.Naming as naming
use Rattle.rx_typeck_typed.specs.Demands as demands
use Rattle.rx_typeck_demand_parts.specs.Walks.{over}
use Rattle.rx_typeck_demand_parts.proofs.walk.Walk.+typ.Given as goal

abbrev pub invariant-types-loop-typ : goal.invariant-types-loop-typ
invariant-types-loop-typ l =
    over (naming.of_types (types_of (map plain-TypeText (drop l.typ-index l.types)))) demands.of_types (λ ts. l.nodes ++ demands.written_nodes ts) l.self
    ≡ over (naming.of_types (types_of (map plain-TypeText l.fn.types))) demands.of_types demands.written_nodes l.fn.self

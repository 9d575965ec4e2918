use Rattle.std.proofs.Common.{◌≡◌, map, drop}
use Rattle.rx_tree.specs.PlainOf.{plain-TypeText, types_of}
use Rattle.rx_typed.specs.Naming as naming
use Rattle.rx_typeck_elaborate_parts.specs.Walks.{behind}
use Rattle.rx_typeck_elaborate_parts.proofs.walk.Walk.+typ.Given as goal

abbrev pub invariant-types-loop-typ : goal.invariant-types-loop-typ
invariant-types-loop-typ l =
    behind (naming.of_types (types_of (map plain-TypeText (drop l.typ-index l.types)))) l.self
    ≡ behind (naming.of_types (types_of (map plain-TypeText l.fn.types))) l.fn.self

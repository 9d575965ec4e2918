use Rattle.std.proofs.Common.{◌≡◌, map, drop}
use Rattle.rx_tree.specs.PlainOf.{plain-TypeText, types_of}
use Rattle.rx_typeck_typed.specs.Written as written
use Rattle.rx_typeck_typed.specs.Readers.{reading, program}
use Rattle.rx_typeck_typed.proofs.ReadingLemmas.{before}
use Rattle.rx_typeck_typed.proofs.declare_types.Types.+typ.Given as goal

abbrev pub invariant-types-loop-typ : goal.invariant-types-loop-typ
invariant-types-loop-typ l =
    before l.all (written.types_of (program l.self) l.role (types_of (map plain-TypeText (drop l.typ-index l.types)))
    (reading l.reader))
    ≡ written.types_of (program l.fn.self) l.fn.role (types_of (map plain-TypeText l.fn.types)) (reading l.fn.reader)

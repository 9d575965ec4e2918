use Rattle.std.proofs.Common.{◌≡◌, map, drop}
use Rattle.rx_tree.specs.PlainOf.{plain-Field}
use Rattle.rx_typeck_typed.specs.Items.{fields_of}
use Rattle.rx_typeck_typed.specs.Readers.{reading, program}
use Rattle.rx_typeck_typed.proofs.ReadingLemmas.{before}
use Rattle.rx_typeck_typed.proofs.declare_types.Types.fields.Given as goal

abbrev pub invariant-loop-field : goal.invariant-loop-field
invariant-loop-field l =
    before l.all (fields_of (program l.self) (map plain-Field (drop l.field-index l.fields)) (reading l.reader))
    ≡ fields_of (program l.fn.self) (map plain-Field l.fn.fields) (reading l.fn.reader)

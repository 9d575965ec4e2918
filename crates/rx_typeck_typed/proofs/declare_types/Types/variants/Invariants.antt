use Rattle.std.proofs.Common.{◌≡◌, map, drop}
use Rattle.rx_tree.specs.PlainOf.{plain-EnumVariant}
use Rattle.rx_typeck_typed.specs.Items.{variants_of}
use Rattle.rx_typeck_typed.specs.Readers.{reading, program}
use Rattle.rx_typeck_typed.proofs.ReadingLemmas.{before}
use Rattle.rx_typeck_typed.proofs.declare_types.Types.variants.Given as goal

abbrev pub invariant-loop-variant : goal.invariant-loop-variant
invariant-loop-variant l =
    before l.all (variants_of (program l.self) (map plain-EnumVariant (drop l.variant-index l.variants))
    (reading l.reader))
    ≡ variants_of (program l.fn.self) (map plain-EnumVariant l.fn.variants) (reading l.fn.reader)

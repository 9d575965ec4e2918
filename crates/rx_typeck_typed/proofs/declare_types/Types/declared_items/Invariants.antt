use Rattle.std.proofs.Common.{◌≡◌, map, drop}
use Rattle.rx_tree.specs.PlainOf.{plain-Item}
use Rattle.rx_typeck_typed.specs.Items.{declared_items}
use Rattle.rx_typeck_typed.specs.Readers.{program}
use Rattle.rx_typeck_typed.proofs.ReadingLemmas.{behind}
use Rattle.rx_typeck_typed.proofs.declare_types.Types.declared_items.Given as goal

abbrev pub invariant-loop-i : goal.invariant-loop-i
invariant-loop-i l =
    behind l.all (declared_items (program l.self) l.names.items l.i (map plain-Item (drop l.i l.items)))
    ≡ declared_items (program l.fn.self) l.fn.names.items 0 (program l.fn.self)

use Rattle.std.proofs.Common.{◌≡◌, ◌++◌, map, drop}
use Rattle.rx_tree.specs.PlainOf.{plain-Item}
use Rattle.rx_compact_known.specs.Knowing.{knows}
use Rattle.rx_compact_functions.proofs.Placing.{items_from}
use Rattle.rx_compact_functions.proofs.program.compacted_items.Given as goal

abbrev pub invariant-loop-number : goal.invariant-loop-number
invariant-loop-number l =
    map plain-Item l.all ++ items_from (knows l.known) l.single l.function l.number (map plain-Item (drop l.number l.items))
    ≡ items_from (knows l.known) l.single l.function 0 (map plain-Item l.items)

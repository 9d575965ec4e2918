use Rattle.std.proofs.Common.{◌≡◌, map, drop}
use Rattle.rx_tree.specs.PlainOf.{plain-Item}
use Rattle.rx_typeck_typed.specs.Programs.{main_of}
use Rattle.rx_typeck_typed.proofs.program.main_of.Given as goal

abbrev pub invariant-loop-item : goal.invariant-loop-item
invariant-loop-item l = main_of (map plain-Item (drop l.item-index l.items)) ≡ main_of (map plain-Item l.fn.items)

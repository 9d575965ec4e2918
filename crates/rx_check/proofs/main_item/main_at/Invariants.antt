use Rattle.std.proofs.Common.{◌≡◌, map, drop}
use Rattle.rx_tree.specs.PlainOf.{plain-Item}
use Rattle.rx_meaning.specs.Programs.{main_in}
use Rattle.rx_check.proofs.main_item.main_at.Given as goal

abbrev pub invariant-loop-i : goal.invariant-loop-i
invariant-loop-i l = main_in (map plain-Item (drop l.i l.items)) l.i ≡ main_in (map plain-Item l.fn.items) 0

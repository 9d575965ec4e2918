use Rattle.std.proofs.Common.{◌≡◌, map, drop}
use Rattle.rx_tree.specs.PlainOf.{plain-Item}
use Rattle.rx_resolve_names.specs.Items.{in_items}
use Rattle.rx_resolve.proofs.ResolveLemmas.{before}
use Rattle.rx_resolve.proofs.program.names_of_items.Given as goal

abbrev pub invariant-loop-i : goal.invariant-loop-i
invariant-loop-i l = before l.all (in_items (map plain-Item l.tables) l.i (map plain-Item (drop l.i l.items))) ≡ in_items (map plain-Item l.fn.tables) 0 (map plain-Item l.fn.items)

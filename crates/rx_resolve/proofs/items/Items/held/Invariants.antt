use Rattle.std.proofs.Common.{◌≡◌, ◌++◌, map, drop}
use Rattle.rx_tree.specs.PlainOf.{plain-Item}
use Rattle.rx_resolve_names.specs.Holding.{held_by}
use Rattle.rx_resolve.proofs.items.Items.held.Given as goal

abbrev pub invariant-loop-item : goal.invariant-loop-item
invariant-loop-item l = l.all ++ map (held_by (map plain-Item l.self)) (map plain-Item (drop l.item-index l.items)) ≡ map (held_by (map plain-Item l.fn.self)) (map plain-Item l.fn.items)

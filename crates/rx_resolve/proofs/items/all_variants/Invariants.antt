use Rattle.std.proofs.Common.{◌≡◌, ◌++◌, map, drop}
use Rattle.rx_tree.specs.PlainOf.{plain-Item}
use Rattle.rx_resolve_names.specs.Meant.{variant_names}
use Rattle.rx_resolve.proofs.items.all_variants.Given as goal

abbrev pub invariant-loop-item : goal.invariant-loop-item
invariant-loop-item l = l.all.items ++ map variant_names (map plain-Item (drop l.item-index l.items)) ≡ map variant_names (map plain-Item l.fn.items)

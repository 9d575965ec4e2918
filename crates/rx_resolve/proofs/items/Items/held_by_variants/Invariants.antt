use Rattle.std.proofs.Common.{◌≡◌, ◌++◌, map, drop}
use Rattle.rx_tree.specs.PlainOf.{plain-Item, plain-EnumVariant}
use Rattle.rx_resolve_names.specs.Holding.{held_by_variants}
use Rattle.rx_resolve.proofs.items.Items.held_by_variants.Given as goal

abbrev pub invariant-loop-variant : goal.invariant-loop-variant
invariant-loop-variant l = l.held ++ held_by_variants (map plain-Item l.self) (map plain-EnumVariant (drop l.variant-index l.variants)) ≡ l.fn.held ++ held_by_variants (map plain-Item l.fn.self) (map plain-EnumVariant l.fn.variants)

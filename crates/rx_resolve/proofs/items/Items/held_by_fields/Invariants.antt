use Rattle.std.proofs.Common.{◌≡◌, ◌++◌, map, drop}
use Rattle.rx_tree.specs.PlainOf.{plain-Item, plain-Field}
use Rattle.rx_resolve_names.specs.Holding.{held_by_fields}
use Rattle.rx_resolve.proofs.items.Items.held_by_fields.Given as goal

abbrev pub invariant-loop-field : goal.invariant-loop-field
invariant-loop-field l = l.held ++ held_by_fields (map plain-Item l.self) (map plain-Field (drop l.field-index l.fields)) ≡ l.fn.held ++ held_by_fields (map plain-Item l.fn.self) (map plain-Field l.fn.fields)

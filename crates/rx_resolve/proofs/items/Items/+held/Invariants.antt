use Rattle.std.proofs.Common.{◌≡◌, ◌++◌, map, drop}
use Rattle.rx_tree.specs.PlainOf.{plain-Item, plain-TypeText, types_of}
use Rattle.rx_resolve_names.specs.Holding.{held_among}
use Rattle.rx_resolve.proofs.items.Items.+held.Given as goal

abbrev pub invariant-held_among-loop-typ : goal.invariant-held_among-loop-typ
invariant-held_among-loop-typ l = l.held ++ held_among (map plain-Item l.self) (types_of (map plain-TypeText (drop l.typ-index l.types))) ≡ l.fn.held ++ held_among (map plain-Item l.fn.self) (types_of (map plain-TypeText l.fn.types))

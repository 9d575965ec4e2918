use Rattle.std.proofs.Common.{◌≡◌, ◌++◌, drop}
use Rattle.rx_typed.specs.PlainTypes.{declarations}
use Rattle.rx_typed_declarations.specs.Held.{held_by_each}
use Rattle.rx_typed_declarations.proofs.holding.held.Given as goal

abbrev pub invariant-loop-item : goal.invariant-loop-item
invariant-loop-item l = l.all ++ held_by_each (declarations (drop l.item-index l.items)) ≡ held_by_each (declarations l.fn.items)

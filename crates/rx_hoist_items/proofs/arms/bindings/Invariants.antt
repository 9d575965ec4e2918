use Rattle.std.proofs.Common.{◌≡◌, false, map, take}
use Rattle.rx_tree.specs.PlainOf.{plain-Pattern}
use Rattle.rx_hoist_extraction.specs.Made.{binding}
use Rattle.rx_hoist_items.proofs.arms.bindings.Given as goal

abbrev pub invariant-loop-name : goal.invariant-loop-name
invariant-loop-name l =
    map plain-Pattern l.all ≡ map (λ x. binding l.span x false) (take l.name-index l.names)

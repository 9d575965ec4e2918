use Rattle.std.proofs.Common.{◌≡◌, ◌++◌, map, drop}
use Rattle.rx_tree_operations.specs.NodeOf.{plain-Node}
use Rattle.rx_typed.specs.PlainTypes.{plain-Ty}
use Rattle.rx_hoist_plan.specs.declared.plan.TypePin.{TypePin}
use Rattle.rx_hoist_naming.specs.Pinning as spec
use Rattle.rx_hoist_naming.proofs.pins.type_pins.Given as goal

-- the pins so far, and those of the nodes that are left
abbrev pub invariant-loop-number : goal.invariant-loop-number
invariant-loop-number l =
    map (λ (t : TypePin). (t.span, plain-Ty t.ty)) l.pins.items ++ spec.type_pins l.function l.run l.diverging l.number (map plain-Node (drop l.number l.nodes))
    ≡ spec.type_pins l.fn.function l.fn.run l.fn.diverging 0 (map plain-Node l.fn.nodes)

use Rattle.std.proofs.Common.{◌≡◌, ◌++◌, map, drop}
use Rattle.rx_tree_operations.specs.NodeOf.{plain-Node}
use Rattle.rx_hoist_plan.specs.declared.plan.KindPin.{KindPin}
use Rattle.rx_hoist_naming.specs.Pinning as spec
use Rattle.rx_hoist_naming.proofs.pins.kind_pins.Given as goal

-- the pins so far, and those of the nodes that are left
abbrev pub invariant-loop-number : goal.invariant-loop-number
invariant-loop-number l =
    map (λ (k : KindPin). (k.span, k.kind)) l.pins.items ++ spec.kind_pins l.function l.number (map plain-Node (drop l.number l.nodes))
    ≡ spec.kind_pins l.fn.function 0 (map plain-Node l.fn.nodes)

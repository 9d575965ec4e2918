use Rattle.std.proofs.Common.{◌≡◌, ◌++◌, map, drop}
use Rattle.rx_tree_operations.specs.NodeOf.{plain-Node}
use Rattle.rx_hoist_naming.specs.DeclaredNames as spec
use Rattle.rx_hoist_naming.proofs.declared.add_bound.Given as goal

-- the names so far, and those of the nodes that are left
abbrev pub invariant-loop-node : goal.invariant-loop-node
invariant-loop-node l =
    map (λ x. x.now) l.names.items ++ spec.names_bound (map plain-Node (drop l.node-index l.nodes)) ≡ map (λ x. x.now) l.fn.names.items ++ spec.names_bound (map plain-Node l.fn.nodes)

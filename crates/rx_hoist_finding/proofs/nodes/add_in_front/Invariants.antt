use Rattle.std.proofs.Common.{◌≡◌, ◌∷◌, ◌++◌, map, take}
use Rattle.rx_tree.specs.Positions.{children}
use Rattle.rx_tree_operations.specs.NodeOf.{plain-Node}
use Rattle.rx_hoist_nodes.specs.Nodes as spec
use Rattle.rx_hoist_finding.proofs.nodes.add_in_front.Given as goal

-- the node, and so many of its children with what stands below them, are there
abbrev pub invariant-loop-at : goal.invariant-loop-at
invariant-loop-at l = map plain-Node l.all.items ≡ map plain-Node l.fn.all.items ++ (plain-Node l.node ∷ spec.within_all (take l.at (children (plain-Node l.node))))

use Rattle.std.proofs.Common.{◌≡◌, ◌∷◌, ◌++◌, map, take, ◌≤◌, length}
use Rattle.rx_tree.specs.Positions.{children}
use Rattle.rx_tree.specs.Nodes.{below}
use Rattle.rx_tree_operations.specs.NodeOf.{plain-Node}
use Rattle.rx_hoist_nodes.specs.Nodes as spec
use Rattle.rx_hoist_finding.proofs.nodes.+add_nodes.Given as goal

-- what stands below the node
abbrev pub decreases-add_nodes : goal.decreases-add_nodes
decreases-add_nodes l = length (below (plain-Node l.node))

-- the node, and so many of its children with what stands below them, are there
abbrev pub invariant-loop-number : goal.invariant-loop-number
invariant-loop-number l =
    (map plain-Node l.all.items ≡ map plain-Node l.fn.all.items ++ (plain-Node l.node ∷ spec.within_all (take l.number (children (plain-Node l.node)))))
    × (l.number ≤ length (children (plain-Node l.node)))

use Rattle.std.proofs.Common.{◌≡◌, ◌++◌, map, drop, slice_get, Some}
use Rattle.rx_tree.specs.PlainOf.{plain-Program}
use Rattle.rx_tree.specs.Positions.{an_item, descend, node_at}
use Rattle.rx_tree_operations.specs.NodeOf.{plain-Node}
use Rattle.rx_hoist_nodes.specs.Nodes as spec
use Rattle.rx_hoist_finding.proofs.nodes.node_of.Given as goal

-- the nodes in front so far, and those on the way that is left; and where it leads
abbrev pub invariant-loop-number : goal.invariant-loop-number
invariant-loop-number l =
    (map plain-Node l.all.items ++ spec.in_front (Some (plain-Node l.node)) (drop l.number-index l.path) ≡ spec.in_front (slice_get (map an_item (plain-Program l.program)) l.item) l.fn.path)
    × (descend (Some (plain-Node l.node)) (drop l.number-index l.path) ≡ node_at (plain-Program l.program) l.item l.fn.path)

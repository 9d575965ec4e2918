use Rattle.std.proofs.Common.{◌≡◌, ◌∷◌, map, drop, length}
use Rattle.rx_tree.specs.Nodes.{below}
use Rattle.rx_tree_operations.specs.NodeOf.{plain-Node}
use Rattle.rx_hoist_extraction.specs.NewFunction.{lifetimes_at_all}
use Rattle.rx_hoist_made.specs.Noting.{joined, with_all}
use Rattle.rx_hoist_made.proofs.lifetimes.+noting.Given as goal

abbrev pub invariant-loop-part : goal.invariant-loop-part
invariant-loop-part l =
    with_all l.all (lifetimes_at_all (joined (map plain-Node (drop l.part-index l.nodes))))
    ≡ with_all l.fn.found (lifetimes_at_all (plain-Node l.fn.node ∷ below (plain-Node l.fn.node)))

-- the nodes below
abbrev pub decreases-with_nodes : goal.decreases-with_nodes
decreases-with_nodes l = length (below (plain-Node l.node))

use Rattle.std.proofs.Common.{◌≡◌, ◌-◌, map, take, length}
use Rattle.rx_tree.specs.Positions.{children}
use Rattle.rx_tree_operations.specs.NodeOf.{plain-Node}
use Rattle.rx_hoist_made.proofs.lifetimes.children_of.Given as goal

abbrev pub invariant-loop-part : goal.invariant-loop-part
invariant-loop-part l = map plain-Node l.all.items ≡ take (length l.all.items) (children (plain-Node l.node))

abbrev pub decreases-loop-part : goal.decreases-loop-part
decreases-loop-part l = length (children (plain-Node l.node)) - length l.all.items

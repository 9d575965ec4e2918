use Rattle.std.proofs.Common.{◌≡◌, ◌<◌, ℕ, Some, true, slice_get}
use Rattle.rx_tree.specs.Positions.{NodeTree, children}
use Rattle.rx_tree_operations.specs.NodeOf.{plain-Node}
use Rattle.rx_select.specs.Search.{around}
use Rattle.rx_select.proofs.children.child_around.Given as goal

abbrev pub invariant-loop-number : goal.invariant-loop-number
invariant-loop-number l = (k : ℕ) (c : NodeTree) → k < l.number → slice_get (children (plain-Node l.fn.node)) k ≡ Some c → around l.places c ≡ true → ⊥

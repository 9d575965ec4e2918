use Rattle.std.proofs.Common.{◌≡◌, Some, drop}
use Rattle.rx_tree.specs.PlainOf.{plain-Program}
use Rattle.rx_tree.specs.Positions.{descend, node_at}
use Rattle.rx_tree_operations.specs.NodeOf.{plain-Node}
use Rattle.rx_tree_operations.proofs.positions.at.Given as goal

abbrev pub invariant-loop-number : goal.invariant-loop-number
invariant-loop-number l = descend (Some (plain-Node l.node)) (drop l.number-index l.number-items) ≡ node_at (plain-Program l.fn.program) l.fn.position.item l.fn.position.path

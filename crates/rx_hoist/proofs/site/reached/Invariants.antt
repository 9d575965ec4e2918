use Rattle.std.proofs.Common.{◌≡◌, drop, Some}
use Rattle.rx_tree.specs.Positions.{descend}
use Rattle.rx_tree_operations.specs.NodeOf.{plain-Node}
use Rattle.rx_hoist.proofs.site.reached.Given as goal

abbrev pub invariant-loop-number : goal.invariant-loop-number
invariant-loop-number l = descend (Some (plain-Node l.node)) (drop l.number-index l.way) ≡ descend (Some (plain-Node l.fn.node)) l.way

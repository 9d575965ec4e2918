-- The trees so far are copied.
use Rattle.std.proofs.Common.{◌≡◌, take}
use Rattle.rx_tree_operations.proofs.copying.copy_all.Given as goal

abbrev pub invariant-loop-tree : goal.invariant-loop-tree
invariant-loop-tree g l = l.all ≡ take l.tree-index l.trees

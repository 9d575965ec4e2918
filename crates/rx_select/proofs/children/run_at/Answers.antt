use Rattle.std.proofs.Common.{subst}
use Rattle.rx_tree_operations.specs.NodeOf.{plain-Node}
use Rattle.rx_select.specs.Descent.{LongBlock}
use Rattle.rx_select.proofs.Around.{long_span}
use Rattle.rx_select.proofs.children.run_at.Goals as goal

pub run_in-requires : goal.run_in-requires
run_in-requires c = long_span c.in-Block.block.now (subst (λ n. LongBlock (plain-Node n)) c.in-Block.is c.requires)

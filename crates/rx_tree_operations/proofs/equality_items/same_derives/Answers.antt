use Rattle.rx_tree_operations.proofs.Lengths.{lengths}
use Rattle.rx_tree_operations.proofs.equality_items.same_derives.Goals as goal

pub returns-then-a-b : goal.returns-then-a-b
returns-then-a-b c = lengths c.args.a.now c.args.b.now c.if-a-b.true

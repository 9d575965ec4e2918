use Rattle.rx_tree.specs.PlainOf.{block_is}
use Rattle.rx_hoist_made.proofs.parts.block_of.Goals as goal

pub returns : goal.returns
returns c = block_is c.args.span c.args.parts.stmts c.args.parts.tail

use Rattle.rx_hoist_blocks.proofs.Functions.{typed_block}
use Rattle.rx_hoist_blocks.proofs.laws.blocks_are_in_typed_trees.Goals as goal

pub returns : goal.returns
returns c = typed_block

use Rattle.rx_engine_names.proofs.ReachedBlocks.{block_reached}
use Rattle.rx_engine_names.proofs.laws.blocks_are_reached.Goals as goal

pub returns : goal.returns
returns c = block_reached

use Rattle.rx_engine_names.proofs.PinnedBlocks.{blocks_stand_alone}
use Rattle.rx_engine_names.proofs.laws.blocks_stand_alone.Goals as goal

pub returns : goal.returns
returns c = blocks_stand_alone

use Rattle.rx_engine_initial_blocks.proofs.RunBlocks.{run_is}
use Rattle.rx_engine_initial_blocks.proofs.laws.marks_tell_the_run.Goals as goal

pub returns : goal.returns
returns c = λ A muts k had items gain U special J R l w xs end d r rest q. run_is A muts k had d r rest q

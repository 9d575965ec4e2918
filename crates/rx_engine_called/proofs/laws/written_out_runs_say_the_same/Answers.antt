use Rattle.rx_engine_called.proofs.WrittenOut.{says_the_same}
use Rattle.rx_engine_called.proofs.laws.written_out_runs_say_the_same.Goals as goal

pub returns : goal.returns
returns c = says_the_same

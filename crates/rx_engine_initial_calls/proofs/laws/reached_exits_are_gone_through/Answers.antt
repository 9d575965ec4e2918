use Rattle.rx_engine_initial_calls.proofs.Reached.{reached}
use Rattle.rx_engine_initial_calls.proofs.Reaching.{some_goes_through, some_goes_to_end}
use Rattle.rx_engine_initial_calls.proofs.laws.reached_exits_are_gone_through.Goals as goal

pub returns : goal.returns
returns c = record { reached = reached; through = some_goes_through; to_end = some_goes_to_end }

use Rattle.rx_engine_initial_calls.proofs.GoingThrough.{run_filled, gone_through}
use Rattle.rx_engine_initial_calls.proofs.laws.runs_are_pieces.Goals as goal

pub returns : goal.returns
returns c = record { stand = run_filled; gone_through = gone_through }

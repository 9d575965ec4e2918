use Rattle.rx_engine_initial_calls.proofs.Ways.{leaves_so}
use Rattle.rx_engine_initial_calls.proofs.laws.jumps_leave_reached_runs.Goals as goal

pub returns : goal.returns
returns c = leaves_so

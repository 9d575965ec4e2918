use Rattle.rx_engine_dropped.proofs.Guarded.{undropped_runs}
use Rattle.rx_engine_dropped.proofs.laws.dropped_units_change_no_run.Goals as goal

pub returns : goal.returns
returns c = λ N D Ts P all declared formed Q u given n. undropped_runs N D Ts P all declared formed Q u given n

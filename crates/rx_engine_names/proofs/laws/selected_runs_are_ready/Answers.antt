use Rattle.rx_engine_names.proofs.SelectedRuns.{run_selected}
use Rattle.rx_engine_names.proofs.laws.selected_runs_are_ready.Goals as goal

pub returns : goal.returns
returns c = run_selected

use Rattle.rx_engine_initial.proofs.Planned.{param_assigned, local_unset, out_set, out_live, not_live}
use Rattle.rx_engine_initial.proofs.laws.plans_tell_where_runs_are_entered_and_left.Goals as goal

pub returns : goal.returns
returns c = record { params = param_assigned; locals = local_unset; set = out_set; live = out_live; not_live = not_live }

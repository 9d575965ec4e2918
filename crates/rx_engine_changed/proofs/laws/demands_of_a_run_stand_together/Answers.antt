use Rattle.rx_engine_changed.proofs.RunAsked.{run_asked}
use Rattle.rx_engine_changed.proofs.laws.demands_of_a_run_stand_together.Goals as goal

pub returns : goal.returns
returns k = λ n s f r pl stands ns c x. run_asked n s f r pl stands ns c x

use Rattle.rx_engine_changed.proofs.RunAsked.{end_asked}
use Rattle.rx_engine_changed.proofs.laws.demands_of_an_end_stand_together.Goals as goal

pub returns : goal.returns
returns k = λ n s f r pl stands past ns m d c x. end_asked n s f r pl stands past ns m d c x

use Rattle.rx_engine_changed.proofs.Arguments.{call_fits}
use Rattle.rx_engine_changed.proofs.laws.calls_of_a_plan_fit.Goals as goal

pub returns : goal.returns
returns c = λ C R E B q f e u t i p h d r. call_fits E B q C R f u t i p h d r

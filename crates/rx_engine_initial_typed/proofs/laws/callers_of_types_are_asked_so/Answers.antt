use Rattle.rx_engine_initial_typed.proofs.Asking.{caller_asked}
use Rattle.rx_engine_initial_typed.proofs.laws.callers_of_types_are_asked_so.Goals as goal

pub returns : goal.returns
returns c = caller_asked

use Rattle.rx_engine_changed.proofs.NoneWaiting.{none_waits_at_the_end}
use Rattle.rx_engine_changed.proofs.laws.valid_functions_leave_none_waiting.Goals as goal

pub returns : goal.returns
returns c D A f valid = none_waits_at_the_end D A f valid.prefers.typed

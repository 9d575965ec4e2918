use Rattle.rx_engine_changed.proofs.Declared.{call_declares}
use Rattle.rx_engine_changed.proofs.laws.what_a_call_declares_is_known.Goals as goal

pub returns : goal.returns
returns k = λ G R apart ss c d later counted h. call_declares G R apart ss c d later counted h

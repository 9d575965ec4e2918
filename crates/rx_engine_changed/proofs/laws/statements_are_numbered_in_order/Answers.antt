use Rattle.rx_engine_changed.proofs.Spots.{statements_numbered}
use Rattle.rx_engine_changed.proofs.laws.statements_are_numbered_in_order.Goals as goal

pub returns : goal.returns
returns k = λ ss c. statements_numbered ss c

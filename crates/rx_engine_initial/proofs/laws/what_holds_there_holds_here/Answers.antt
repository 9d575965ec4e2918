use Rattle.rx_lower_walks.specs.Walks.{IsWalk}
use Rattle.rx_engine_initial.proofs.Tracing.{holds_here}
use Rattle.rx_engine_initial.proofs.laws.what_holds_there_holds_here.Goals as goal

pub returns : goal.returns
returns c = λ f V W us w t ws. holds_here (IsWalk f) V W t ws

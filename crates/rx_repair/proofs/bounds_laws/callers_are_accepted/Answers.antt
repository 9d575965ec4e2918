use Rattle.rx_repair.proofs.Callers.{caller_accepted}
use Rattle.rx_repair.proofs.bounds_laws.callers_are_accepted.Goals as goal

pub returns : goal.returns
returns c D P i bs all f ne = caller_accepted D P i bs all f ne

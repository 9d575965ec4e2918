use Rattle.rx_select.proofs.Ways.{one_run}
use Rattle.rx_select.proofs.laws.one_run.Goals as goal

pub returns : goal.returns
returns c = one_run

use Rattle.rx_check.proofs.Settling.{any_pairs}
use Rattle.rx_check.proofs.loans_laws.any_pairs_serve.Goals as goal

pub returns : goal.returns
returns c = any_pairs

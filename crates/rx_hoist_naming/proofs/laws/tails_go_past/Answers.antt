use Rattle.rx_hoist_naming.proofs.Pinned.{tail_goes_past}
use Rattle.rx_hoist_naming.proofs.laws.tails_go_past.Goals as goal

pub returns : goal.returns
returns c = tail_goes_past

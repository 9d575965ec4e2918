use Rattle.rx_compact.proofs.Telling.{known_follows}
use Rattle.rx_compact.proofs.laws.known_lifetimes_follow.Goals as goal

pub returns : goal.returns
returns c D P asked n ps t bs l k = known_follows D P asked n ps t bs l k

use Rattle.rx_lower_walks.proofs.HeldLemmas.{held}
use Rattle.rx_lower_walks.proofs.walks_laws.walks_hold_their_actions.Goals as goal

pub returns : goal.returns
returns c s w o h a k = held h a k

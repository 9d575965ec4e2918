use Rattle.rx_check_laws.proofs.Accepted.{front_accepted_there}
use Rattle.rx_check_laws.proofs.laws.fronts_ignore_spans.Goals as goal

pub returns : goal.returns
returns c p q e t f = front_accepted_there p q e t f

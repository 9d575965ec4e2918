use Rattle.rx_check_laws.proofs.Accepted.{accepted_there}
use Rattle.rx_check_laws.proofs.laws.acceptance_ignores_spans.Goals as goal

pub returns : goal.returns
returns c p q e t a = accepted_there p q e t a

use Rattle.rx_cert_rules.proofs.Keeping.{accepts}
use Rattle.rx_cert_rules.proofs.laws.good_is_accepted.Goals as goal

pub returns : goal.returns
returns c C g R W = accepts C g R W

use Rattle.rx_cert_rules.proofs.Keeping.{least_good}
use Rattle.rx_cert_rules.proofs.laws.least_is_good.Goals as goal

pub returns : goal.returns
returns c C g R W = least_good C g R W

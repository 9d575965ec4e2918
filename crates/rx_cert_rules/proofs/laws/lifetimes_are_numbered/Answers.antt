use Rattle.rx_cert_rules.proofs.Numbering.{are_numbered}
use Rattle.rx_cert_rules.proofs.laws.lifetimes_are_numbered.Goals as goal

pub returns : goal.returns
returns c D P f b raws ws = are_numbered D P f b raws ws

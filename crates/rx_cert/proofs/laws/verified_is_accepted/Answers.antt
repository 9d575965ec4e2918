use Rattle.rx_cert.proofs.Accepting.{verified}
use Rattle.rx_cert.proofs.laws.verified_is_accepted.Goals as goal

pub returns : goal.returns
returns c bytes v ls text is = verified bytes v ls text is

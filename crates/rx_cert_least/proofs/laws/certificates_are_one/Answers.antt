use Rattle.rx_cert_least.proofs.Agreeing.{one_certificate_each}
use Rattle.rx_cert_least.proofs.laws.certificates_are_one.Goals as goal

pub returns : goal.returns
returns c = one_certificate_each c.one_typing.ensures

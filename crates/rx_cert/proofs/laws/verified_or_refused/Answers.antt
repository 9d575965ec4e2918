use Rattle.rx_cert.proofs.Excluding.{verified_or_refused}
use Rattle.rx_cert.proofs.laws.verified_or_refused.Goals as goal

pub returns : goal.returns
returns c bytes e = verified_or_refused c.one_typing.ensures c.passed_or_faulty.ensures.fronted c.misread_bytes_are_no_certificate.ensures bytes e

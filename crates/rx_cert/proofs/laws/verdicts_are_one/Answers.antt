use Rattle.rx_cert.proofs.Agreeing.{verdicts_one}
use Rattle.rx_cert.proofs.laws.verdicts_are_one.Goals as goal

pub returns : goal.returns
returns c = verdicts_one c.one_typing.ensures c.passed_or_faulty.ensures.fronted c.misread_bytes_are_no_certificate.ensures c.causes_are_one.ensures

use Rattle.rx_cert_laws.proofs.Certified.{certified_not_refused}
use Rattle.rx_cert_laws.proofs.laws.certified_or_refused.Goals as goal

pub returns : goal.returns
returns c text bytes e told few is = certified_not_refused c.passed_or_faulty.ensures.accepted c.certificates_are_one.ensures text bytes e told is few

use Rattle.rx_cert_lines.proofs.Wholes.{one_certificate}
use Rattle.rx_cert_lines.proofs.laws.certificates_are_unique.Goals as goal

pub returns : goal.returns
returns c = one_certificate

use Rattle.rx_cert_lines.proofs.Wholes.{not_both}
use Rattle.rx_cert_lines.proofs.laws.misread_bytes_are_no_certificate.Goals as goal

pub returns : goal.returns
returns c = not_both

use Rattle.rx_cert_lines.proofs.Wholes.{one_misread}
use Rattle.rx_cert_lines.proofs.laws.misread_lines_are_unique.Goals as goal

pub returns : goal.returns
returns c = one_misread

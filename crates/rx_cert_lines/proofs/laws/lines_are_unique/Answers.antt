use Rattle.rx_cert_lines.proofs.LineTexts.{line_same}
use Rattle.rx_cert_lines.proofs.laws.lines_are_unique.Goals as goal

pub returns : goal.returns
returns c = line_same

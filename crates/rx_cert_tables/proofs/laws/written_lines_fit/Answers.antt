use Rattle.rx_cert_tables.proofs.Placed.{written_fit}
use Rattle.rx_cert_tables.proofs.laws.written_lines_fit.Goals as goal

pub returns : goal.returns
returns c = written_fit

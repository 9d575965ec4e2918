use Rattle.rx_print_spelling.proofs.Spelling.{text_reads_back}
use Rattle.rx_print_spelling.proofs.laws.texts_read_back.Goals as goal

pub returns : goal.returns
returns c = text_reads_back

use Rattle.rx_print_spelling.proofs.ItemsFormed.{text_formed}
use Rattle.rx_print_spelling.proofs.laws.texts_are_formed.Goals as goal

pub returns : goal.returns
returns c = text_formed

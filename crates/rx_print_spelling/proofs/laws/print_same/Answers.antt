use Rattle.rx_print_spelling.proofs.SameText.{print_same}
use Rattle.rx_print_spelling.proofs.SameLevels.{levels_same}
use Rattle.rx_print_spelling.proofs.SameFormed.{formed_same}
use Rattle.rx_print_spelling.proofs.laws.print_same.Goals as goal

pub returns-clause-text : goal.returns-clause-text
returns-clause-text c = print_same

pub returns-clause-levels : goal.returns-clause-levels
returns-clause-levels c = levels_same

pub returns-clause-formed : goal.returns-clause-formed
returns-clause-formed c = formed_same

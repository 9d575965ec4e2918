use Rattle.rx_parse_grammar.proofs.Whole.{type_read, type_derived}
use Rattle.rx_parse_grammar.proofs.laws.types_are_read.Goals as goal

pub returns-clause-complete : goal.returns-clause-complete
returns-clause-complete c = type_read

pub returns-clause-sound : goal.returns-clause-sound
returns-clause-sound c = type_derived

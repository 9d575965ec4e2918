use Rattle.rx_parse_grammar.proofs.Whole.{expression_read, expression_derived}
use Rattle.rx_parse_grammar.proofs.laws.expressions_are_read.Goals as goal

pub returns-clause-complete : goal.returns-clause-complete
returns-clause-complete c = expression_read

pub returns-clause-sound : goal.returns-clause-sound
returns-clause-sound c = expression_derived

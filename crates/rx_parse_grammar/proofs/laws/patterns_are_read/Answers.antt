use Rattle.rx_parse_grammar.proofs.Whole.{pattern_read, pattern_derived}
use Rattle.rx_parse_grammar.proofs.laws.patterns_are_read.Goals as goal

pub returns-clause-complete : goal.returns-clause-complete
returns-clause-complete c = pattern_read

pub returns-clause-sound : goal.returns-clause-sound
returns-clause-sound c = pattern_derived

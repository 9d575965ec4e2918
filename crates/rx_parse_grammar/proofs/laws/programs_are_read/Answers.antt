use Rattle.rx_parse_grammar.proofs.Whole.{program_read, program_derived}
use Rattle.rx_parse_grammar.proofs.laws.programs_are_read.Goals as goal

pub returns-clause-complete : goal.returns-clause-complete
returns-clause-complete c = program_read

pub returns-clause-sound : goal.returns-clause-sound
returns-clause-sound c = program_derived

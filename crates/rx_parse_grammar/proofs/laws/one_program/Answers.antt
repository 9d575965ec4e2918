use Rattle.rx_parse_grammar.proofs.Whole.{one_program_tree, one_program_height}
use Rattle.rx_parse_grammar.proofs.laws.one_program.Goals as goal

pub returns-clause-tree : goal.returns-clause-tree
returns-clause-tree c = one_program_tree

pub returns-clause-levels : goal.returns-clause-levels
returns-clause-levels c = one_program_height

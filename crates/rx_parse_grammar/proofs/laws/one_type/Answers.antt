use Rattle.rx_parse_grammar.proofs.Whole.{one_type_tree, one_type_height}
use Rattle.rx_parse_grammar.proofs.laws.one_type.Goals as goal

pub returns-clause-tree : goal.returns-clause-tree
returns-clause-tree c = one_type_tree

pub returns-clause-levels : goal.returns-clause-levels
returns-clause-levels c = one_type_height

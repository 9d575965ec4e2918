use Rattle.rx_parse_grammar.proofs.Whole.{one_pattern_tree, one_pattern_height}
use Rattle.rx_parse_grammar.proofs.laws.one_pattern.Goals as goal

pub returns-clause-tree : goal.returns-clause-tree
returns-clause-tree c = one_pattern_tree

pub returns-clause-levels : goal.returns-clause-levels
returns-clause-levels c = one_pattern_height

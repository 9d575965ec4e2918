use Rattle.rx_parse_grammar.proofs.Whole.{one_expression_tree, one_expression_height}
use Rattle.rx_parse_grammar.proofs.laws.one_expression.Goals as goal

pub returns-clause-tree : goal.returns-clause-tree
returns-clause-tree c = one_expression_tree

pub returns-clause-levels : goal.returns-clause-levels
returns-clause-levels c = one_expression_height

use Rattle.rx_parse_grammar.proofs.Whole.{one_text}
use Rattle.rx_parse_grammar.proofs.laws.one_tree.Goals as goal

pub returns : goal.returns
returns c = one_text

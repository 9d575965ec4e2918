use Rattle.rx_parse_grammar.proofs.Numbered.{numbered, text_numbered}
use Rattle.rx_parse_grammar.proofs.laws.programs_are_numbered.Goals as goal

pub returns-clause-tokens : goal.returns-clause-tokens
returns-clause-tokens c = numbered

pub returns-clause-text : goal.returns-clause-text
returns-clause-text c = text_numbered

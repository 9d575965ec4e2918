use Rattle.rx_parse_grammar.proofs.Places.{says, syntax_place, end_place, too_deep_place, text_word}
use Rattle.rx_parse_grammar.proofs.laws.places_are_exact.Goals as goal

pub returns-clause-says : goal.returns-clause-says
returns-clause-says c = says

pub returns-clause-syntax : goal.returns-clause-syntax
returns-clause-syntax c = syntax_place

pub returns-clause-end : goal.returns-clause-end
returns-clause-end c = end_place

pub returns-clause-too_deep : goal.returns-clause-too_deep
returns-clause-too_deep c = too_deep_place

pub returns-clause-text : goal.returns-clause-text
returns-clause-text c = text_word

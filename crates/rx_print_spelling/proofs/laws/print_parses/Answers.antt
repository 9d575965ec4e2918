use Rattle.rx_print_spelling.proofs.Spelling.{spelled, print_parses, low_where_parsed}
use Rattle.rx_print_spelling.proofs.laws.print_parses.Goals as goal

pub returns-clause-tokens : goal.returns-clause-tokens
returns-clause-tokens c = spelled

pub returns-clause-text : goal.returns-clause-text
returns-clause-text c = print_parses

pub returns-clause-low : goal.returns-clause-low
returns-clause-low c = low_where_parsed

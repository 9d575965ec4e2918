use Rattle.std.proofs.Common.{rules, sym, ◌∙◌}
use denote.Enum.Bare.{same_true}
use Rattle.rx_parse_grammar.specs.contracts.symbol.Symbol.{the_type}
use Rattle.rx_parse_grammar.specs.parser.Symbols.{same_symbol}
use Rattle.rx_parse_grammar.proofs.symbol.same_symbol.Goals as goal

pub returns-clause-value : goal.returns-clause-value
unfolding same_symbol
returns-clause-value c = search rules

pub returns-clause-same : goal.returns-clause-same
returns-clause-same c is = same_true the_type (search rules) _ _ (sym c.eq.ensures ∙ is)

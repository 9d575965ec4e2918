-- What stands behind an expression in a block, and behind the value of an arm.
use Rattle.std.specs.Prelude.{Bool, not, ◌&&◌, if◌then◌else◌, List}
use Rattle.rx_lex.specs.Tok.{Tok}
use Rattle.rx_parse_grammar.specs.declared.symbol.Symbol.{Symbol}
use Rattle.rx_parse_grammar.specs.declared.symbol.Symbol.TheVariants as symbol
use Rattle.rx_parse_grammar.specs.parser.Symbols.{tail}
use Rattle.rx_parse_grammar.specs.parser.Steps.{Parser, ◌>>=◌, pure, next, expect, when_next, sees}
use Rattle.rx_parse_choices.specs.declared.ends.After.{After}
use Rattle.rx_parse_choices.specs.declared.ends.After.TheVariants.{Semicolon, Closing, Nothing}

abbrev pub after_like_by : Symbol → Parser After
after_like_by symbol.Semicolon = expect symbol.Semicolon >>= (λ z. pure (Semicolon z.span))
after_like_by symbol.CloseBrace = expect symbol.CloseBrace >>= (λ c. pure (Closing c.span))
after_like_by _ = pure Nothing

-- behind one that ends in a block
abbrev pub after_like : Parser After
after_like = next >>= after_like_by

-- behind any other
abbrev pub after_whole : Parser After
after_whole = when_next symbol.Semicolon (expect symbol.Semicolon >>= (λ z. pure (Semicolon z.span)))
    (expect symbol.CloseBrace >>= (λ c. pure (Closing c.span)))

-- ---- behind the value of an arm

abbrev pub behind_comma : List Tok → List Tok
behind_comma i = if sees symbol.Comma i then tail i else i

-- whether a further arm follows a value, which may end in a block
abbrev pub follows : Bool → List Tok → Bool
follows l i = if sees symbol.Comma i then not (sees symbol.CloseBrace (tail i)) else (l && not (sees symbol.CloseBrace i))

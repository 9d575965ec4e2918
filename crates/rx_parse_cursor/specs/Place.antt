-- What a cursor shows: the tokens from its place on, where the first `&` of a `&&` may be behind it.
use Rattle.std.specs.Prelude.{◌≤◌, ◌<◌, if◌then◌else◌, List, [], ◌∷◌, length, drop}
use Rattle.std.specs.List.{All}
use Rattle.rx_parse_cursor.specs.declared.cursor.Cursor.TheInside.{Inside}
use Rattle.rx_lex.specs.declared.token.Token.{Token}
use Rattle.rx_lex.specs.Tok.{Tok, toks}
use Rattle.rx_parse_grammar.specs.grammar.Words.{second_ampersand}

-- the first token is a `&&` of which the second `&` is left
abbrev pub halved : List Tok → List Tok
halved [] = []
halved (t ∷ ts) = second_ampersand t ∷ ts

abbrev pub rest_of : Inside → List Tok
rest_of c = if c.split then halved (toks (drop c.at c.tokens.now)) else toks (drop c.at c.tokens.now)

-- it stands on a byte at least
abbrev pub IsPlaced : Token → Type 0
IsPlaced t = t.span.start < t.span.end

abbrev pub ArePlaced : List Token → Type 0
ArePlaced = All IsPlaced

pub record IsWithin (c : Inside) : Type 0 where
  pub within : c.at ≤ length c.tokens.now
  pub placed : ArePlaced c.tokens.now

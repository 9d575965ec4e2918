-- What a token is to the grammar, and the steps on a list of tokens.
use Rattle.std.specs.Prelude.{ℕ, Bool, if◌then◌else◌, List, [], ◌∷◌, codes}
use Rattle.std.specs.Str.{bytes_eq}
use denote.Enum.Bare.{sameb}
use Rattle.rx_lex.specs.declared.token.Class.{Class}
use Rattle.rx_lex.specs.declared.token.Class.TheVariants as class
use Rattle.rx_lex.specs.Tok.{Tok}
use Rattle.rx_parse_grammar.specs.declared.symbol.Symbol.{Symbol}
use Rattle.rx_parse_grammar.specs.declared.symbol.Symbol.TheVariants as symbol
use Rattle.rx_parse_grammar.specs.contracts.symbol.Symbol.{the_type}

abbrev pub lookup : List (List ℕ × Symbol) → List ℕ → Symbol
lookup [] word = symbol.Other
lookup (k ∷ ks) word = if bytes_eq k.0 word then k.1 else lookup ks word

abbrev pub keywords : List (List ℕ × Symbol)
keywords =
    (codes "mod", symbol.Mod) ∷ (codes "struct", symbol.Struct) ∷ (codes "enum", symbol.Enum) ∷ (codes "fn", symbol.Fn)
    ∷ (codes "let", symbol.Let) ∷ (codes "mut", symbol.Mut) ∷ (codes "if", symbol.If) ∷ (codes "else", symbol.Else)
    ∷ (codes "match", symbol.Match) ∷ (codes "loop", symbol.Loop) ∷ (codes "while", symbol.While) ∷ (codes "break", symbol.Break)
    ∷ (codes "continue", symbol.Continue) ∷ (codes "return", symbol.Return) ∷ (codes "true", symbol.True) ∷ (codes "false", symbol.False)
    ∷ (codes "bool", symbol.Bool) ∷ (codes "u8", symbol.U8) ∷ (codes "u32", symbol.U32) ∷ (codes "u64", symbol.U64)
    ∷ (codes "i32", symbol.I32) ∷ (codes "i64", symbol.I64) ∷ []

unfoldable pub keyword : List ℕ → Symbol
keyword = lookup keywords

abbrev pub marks : List (List ℕ × Symbol)
marks =
    (codes "->", symbol.Arrow) ∷ (codes "=>", symbol.FatArrow) ∷ (codes "::", symbol.ColonColon) ∷ (codes "==", symbol.EqualEqual)
    ∷ (codes "!=", symbol.NotEqual) ∷ (codes "<=", symbol.LessEqual) ∷ (codes ">=", symbol.GreaterEqual) ∷ (codes "&&", symbol.AndAnd)
    ∷ (codes "||", symbol.OrOr) ∷ (codes "+=", symbol.PlusEqual) ∷ (codes "-=", symbol.MinusEqual) ∷ (codes "*=", symbol.StarEqual)
    ∷ (codes "/=", symbol.SlashEqual) ∷ (codes "%=", symbol.PercentEqual) ∷ (codes "(", symbol.OpenParen) ∷ (codes ")", symbol.CloseParen)
    ∷ (codes "{", symbol.OpenBrace) ∷ (codes "}", symbol.CloseBrace) ∷ (codes "[", symbol.OpenBracket) ∷ (codes "]", symbol.CloseBracket)
    ∷ (codes "<", symbol.Less) ∷ (codes ">", symbol.Greater) ∷ (codes ",", symbol.Comma) ∷ (codes ";", symbol.Semicolon)
    ∷ (codes ":", symbol.Colon) ∷ (codes ".", symbol.Dot) ∷ (codes "=", symbol.Equal) ∷ (codes "+", symbol.Plus)
    ∷ (codes "-", symbol.Minus) ∷ (codes "*", symbol.Star) ∷ (codes "/", symbol.Slash) ∷ (codes "%", symbol.Percent)
    ∷ (codes "!", symbol.Bang) ∷ (codes "&", symbol.Ampersand) ∷ (codes "#", symbol.Hash) ∷ (codes "_", symbol.Underscore) ∷ []

unfoldable pub mark : List ℕ → Symbol
mark = lookup marks

-- `'_` is a symbol of its own
abbrev pub lifetime : List ℕ → Symbol
lifetime word = if bytes_eq word (codes "'_") then symbol.Anonymous else symbol.Lifetime

abbrev pub symbol_by : Class → List ℕ → Symbol
symbol_by class.Identifier word = symbol.Name
symbol_by class.Keyword word = keyword word
symbol_by class.Lifetime word = lifetime word
symbol_by class.Number word = symbol.Number
symbol_by class.Format word = symbol.Format
symbol_by class.Mark word = mark word

unfoldable pub symbol_of : Tok → Symbol
symbol_of t = symbol_by t.class t.text

-- `==` on symbols
unfoldable pub same_symbol : Symbol → Symbol → Bool
same_symbol = sameb the_type

-- what stands for the end
abbrev pub none : Tok
none = record { class = class.Mark; span = record { start = 0; end = 0 }; text = [] }

abbrev pub head : List Tok → Tok
head [] = none
head (t ∷ ts) = t

abbrev pub tail : List Tok → List Tok
tail [] = []
tail (t ∷ ts) = ts

abbrev pub peek : List Tok → Symbol
peek [] = symbol.End
peek (t ∷ ts) = symbol_of t

-- Parsers as functions on lists of tokens, and the steps that they are made of.
use Rattle.std.specs.Prelude.{◌≡◌, ◌≢◌, ℕ, ◌+◌, Bool, ◌&&◌, if◌then◌else◌, nat_lt, List, length, Result, Ok, Err}
use Rattle.std.specs.Str.{bytes_eq}
use Rattle.rx_core.specs.declared.types.Span.{Span}
use Rattle.rx_lex.specs.Tok.{Tok}
use Rattle.rx_parse_grammar.specs.declared.stop.Stop.{Stop}
use Rattle.rx_parse_grammar.specs.declared.stop.Stop.TheVariants.{OutOfMemory, Syntax, TooDeep}
use Rattle.rx_parse_grammar.specs.declared.symbol.Symbol.{Symbol}
use Rattle.rx_parse_grammar.specs.declared.symbol.Symbol.TheVariants as symbol
use Rattle.rx_parse_grammar.specs.parser.Symbols.{same_symbol, head, tail, peek}

abbrev pub Outcome : Type 0 → Type 0
Outcome A = Result (A × List Tok) Stop

abbrev pub Parser : Type 0 → Type 0
Parser A = List Tok → Outcome A

abbrev pub and_then : {A B : Type 0} → Outcome A → (A → Parser B) → Outcome B
and_then (Ok p) f = f p.0 p.1
and_then (Err e) f = Err e

infixr 10 ◌>>=◌
abbrev pub ◌>>=◌ : {A B : Type 0} → Parser A → (A → Parser B) → Parser B
p >>= f = λ i. and_then (p i) f

infixr 10 ◌>>◌
abbrev pub ◌>>◌ : {A B : Type 0} → Parser A → Parser B → Parser B
p >> q = p >>= (λ _. q)

abbrev pub pure : {A : Type 0} → A → Parser A
pure a = λ i. Ok (a, i)

abbrev pub refuse : {A : Type 0} → Parser A
refuse = λ i. Err (Syntax (length i))

abbrev pub too_deep : {A : Type 0} → Parser A
too_deep = λ i. Err (TooDeep (length i))

-- the symbol of the next token
abbrev pub next : Parser Symbol
next = λ i. Ok (peek i, i)

abbrev pub take_token : Parser Tok
take_token = λ i. Ok (head i, tail i)

abbrev pub sees : Symbol → List Tok → Bool
sees k i = same_symbol (peek i) k

-- a token with this symbol
unfoldable pub expect : Symbol → Parser Tok
expect k = λ i. if sees k i then Ok (head i, tail i) else Err (Syntax (length i))

-- whether the next token is a name that is this word
unfoldable pub sees_word : List ℕ → List Tok → Bool
sees_word w i = sees symbol.Name i && bytes_eq (head i).text w

unfoldable pub expect_word : List ℕ → Parser Tok
expect_word w = λ i. if sees_word w i then Ok (head i, tail i) else Err (Syntax (length i))

abbrev pub when_word : {A : Type 0} → List ℕ → Parser A → Parser A → Parser A
when_word w p q = λ i. if sees_word w i then p i else q i

-- one of two, by the next token
abbrev pub when_next : {A : Type 0} → Symbol → Parser A → Parser A → Parser A
when_next k p q = λ i. if sees k i then p i else q i

-- what needs so many levels below
abbrev pub within : {A : Type 0} → ℕ → ℕ → Parser A → Parser A
within need d p = λ i. if nat_lt d need then Err (TooDeep (length i)) else p i

-- what is read: a tree, its levels with those of parentheses, and its place with its parentheses
pub record Got (A : Type 0) : Type 0 where
  pub tree : A
  pub height : ℕ
  pub span : Span

-- a node with nothing below
abbrev pub leaf : {A : Type 0} → (Span → A) → Span → Got A
leaf f s = record { tree = f s; height = 1; span = s }

-- a node above so many levels
abbrev pub node : {A : Type 0} → (Span → A) → Span → ℕ → Got A
node f s h = record { tree = f s; height = h + 1; span = s }

-- what a function that parses ensures: the parser's outcome for what its value stands for, unless memory fails
abbrev pub ReadsAs : {A B : Type 0} → (A → B) → Outcome B → Result A Stop → List Tok → Type 0
ReadsAs f outcome (Ok a) new = outcome ≡ Ok (f a, new)
ReadsAs f outcome (Err e) new = e ≢ OutOfMemory → outcome ≡ Err e

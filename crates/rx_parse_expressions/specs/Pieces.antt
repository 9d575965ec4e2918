-- One turn of the parser of statements, apart from what follows it, and its parts.
use Rattle.std.specs.Prelude.{ℕ, max, Bool, true, false, List, [], ◌∷◌, ◌++◌, Option, Some, None}
use Rattle.rx_core.specs.declared.types.Span.{Span}
use Rattle.rx_tree.specs.Plain as plain
use Rattle.rx_tree.specs.Plain.{TypeTree, PatternTree, Expression, OptionalExpression, Body, Statement}
use Rattle.rx_parse_grammar.specs.declared.symbol.Symbol.{Symbol}
use Rattle.rx_parse_grammar.specs.declared.symbol.Symbol.TheVariants as symbol
use Rattle.rx_parse_grammar.specs.grammar.Words.{join}
use Rattle.rx_parse_grammar.specs.parser.Steps.{Parser, Got, ◌>>=◌, ◌>>◌, pure, refuse, next, expect, when_next, within}
use Rattle.rx_parse_grammar.specs.parser.Patterns.{pattern}
use Rattle.rx_parse_grammar.specs.parser.Operators.{begins_like}
use Rattle.rx_parse_grammar.specs.parser.Blocks as spec
use Rattle.rx_parse_grammar.specs.parser.Blocks.{whole, like, annotation, declares}
use Rattle.rx_parse_choices.specs.declared.ends.After.{After}
use Rattle.rx_parse_choices.specs.declared.ends.After.TheVariants.{Semicolon, Closing, Nothing}
use Rattle.rx_parse_choices.specs.Ends.{after_like, after_whole}

abbrev pub let_statement : ℕ → Parser (Got Statement)
let_statement b = spec.let_statement (whole b) (like b) b

abbrev pub statements_from : ℕ → Span → ℕ → List Statement → ℕ → Parser (Got Body)
statements_from b = spec.statements_from (whole b) (like b) b

-- ---- a declaration, from behind the type on

-- the value, if there is one, its levels, and where the `;` stands
pub record InitialTree : Type 0 where
  pub value : OptionalExpression
  pub height : ℕ
  pub close : Span

abbrev pub without_value : Bool → Parser InitialTree
without_value true = expect symbol.Semicolon >>= (λ z. pure (record { value = plain.absent; height = 0; close = z.span }))
without_value false = refuse

unfoldable pub initial : ℕ → Bool → Parser InitialTree
initial b only = when_next symbol.Equal (expect symbol.Equal >> whole b >>= (λ x. expect symbol.Semicolon
    >>= (λ z. pure (record { value = plain.present x.tree; height = x.height; close = z.span }))))
    (without_value only)

abbrev pub let_with : Span → Got PatternTree → Option TypeTree × ℕ → InitialTree → Got Statement
let_with s p y e = record { tree = plain.let_statement (join s e.close) p.tree y.0 e.value; height = max (max p.height y.1) e.height; span = join s e.close }

unfoldable pub declared : ℕ → Parser (Got Statement)
declared b = within 1 b (do
  t ← expect symbol.Let
  p ← pattern b
  y ← annotation b
  e ← initial b (declares p.tree p.height)
  pure (let_with t.span p y e))

-- ---- a piece of a block

-- a statement, the closing brace, or a tail and the closing brace
pub data PieceTree : Type 0 where
  statement : Got Statement → PieceTree
  ended : Span → PieceTree
  tail : Got Expression → Span → PieceTree

-- the most levels of what was read
abbrev pub height_of : PieceTree → ℕ
height_of (statement a) = a.height
height_of (ended s) = 0
height_of (tail x s) = x.height

abbrev pub with_after : Got Expression → After → PieceTree
with_after x (Semicolon s) = statement (record { tree = plain.expression_statement (join x.span s) x.tree true; height = x.height; span = join x.span s })
with_after x (Closing s) = tail x s
with_after x Nothing = statement (record { tree = plain.expression_statement x.span x.tree false; height = x.height; span = x.span })

abbrev pub expression_by : ℕ → Bool → Parser PieceTree
expression_by b true = like b >>= (λ x. after_like >>= (λ a. pure (with_after x a)))
expression_by b false = whole b >>= (λ x. after_whole >>= (λ a. pure (with_after x a)))

abbrev pub piece_by : ℕ → Symbol → Parser PieceTree
piece_by b symbol.CloseBrace = expect symbol.CloseBrace >>= (λ c. pure (ended c.span))
piece_by b symbol.Let = declared b >>= (λ a. pure (statement a))
piece_by b q = expression_by b (begins_like q)

unfoldable pub piece : ℕ → Parser PieceTree
piece b = next >>= piece_by b

-- ---- a turn

-- the tail, and where the closing brace stands
pub record EndingTree : Type 0 where
  pub tail : OptionalExpression
  pub close : Span

-- the statements, the most levels of what was read, and the end of the block where it is reached
pub record TurnTree : Type 0 where
  pub list : List Statement
  pub height : ℕ
  pub ending : Option EndingTree

abbrev pub with_piece : List Statement → ℕ → PieceTree → TurnTree
with_piece found h (statement a) = record { list = found ++ a.tree ∷ []; height = max h a.height; ending = None }
with_piece found h (ended s) = record { list = found; height = h; ending = Some (record { tail = plain.absent; close = s }) }
with_piece found h (tail x s) = record { list = found; height = max h x.height; ending = Some (record { tail = plain.present x.tree; close = s }) }

unfoldable pub turn : ℕ → List Statement → ℕ → Parser TurnTree
turn b found h = piece b >>= (λ p. pure (with_piece found h p))

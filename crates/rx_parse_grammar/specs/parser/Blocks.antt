-- The parser of statements and blocks, and the parsers of so many levels.
use Rattle.std.specs.Prelude.{ℕ, zero, suc, max, Bool, true, false, if◌then◌else◌, ◌==◌, List, [], ◌∷◌, ◌++◌, length, Option, Some, None}
use Rattle.rx_core.specs.declared.types.Span.{Span}
use Rattle.rx_tree.specs.Plain as plain
use Rattle.rx_tree.specs.Plain.{TypeTree, PatternTree, Expression, OptionalExpression, Body, Statement}
use Rattle.rx_tree.specs.PlainOf.{statements_of}
use Rattle.rx_lex.specs.Tok.{Tok}
use Rattle.rx_parse_grammar.specs.declared.symbol.Symbol.{Symbol}
use Rattle.rx_parse_grammar.specs.declared.symbol.Symbol.TheVariants as symbol
use Rattle.rx_parse_grammar.specs.grammar.Words.{join}
use Rattle.rx_parse_grammar.specs.parser.Steps.{Parser, Got, ◌>>=◌, ◌>>◌, pure, refuse, too_deep, next, expect, when_next, within, node}
use Rattle.rx_parse_grammar.specs.parser.Types.{typ}
use Rattle.rx_parse_grammar.specs.parser.Patterns.{pattern}
use Rattle.rx_parse_grammar.specs.parser.Operators.{begins_like, begins_operand, begins_expression}
use Rattle.rx_parse_grammar.specs.parser.Expressions.{at_strength, whole_by, like_by}

-- whether a pattern of so many levels is a name alone, without parentheses
abbrev pub declares : PatternTree → ℕ → Bool
declares (plain.bind s n m) h = h == 1
declares _ h = false

-- the type behind a pattern, where one is written, and its levels
unfoldable pub annotation : ℕ → Parser (Option TypeTree × ℕ)
annotation d = when_next symbol.Colon (expect symbol.Colon >> typ d >>= (λ y. pure (Some y.tree, y.height))) (pure (None, 0))

module _ (whole like : Parser (Got Expression)) (d : ℕ) where
  -- from `=` on
  abbrev pub initialised : Tok → Got PatternTree → Option TypeTree × ℕ → Parser (Got Statement)
  initialised t p y = do
    expect symbol.Equal
    x ← whole
    z ← expect symbol.Semicolon
    pure (record { tree = plain.let_statement (join t.span z.span) p.tree y.0 (plain.present x.tree); height = max (max p.height y.1) x.height; span = join t.span z.span })

  -- only a name may be declared without a value
  abbrev pub declared_by : Tok → Got PatternTree → Option TypeTree × ℕ → Bool → Parser (Got Statement)
  declared_by t p y true = expect symbol.Semicolon >>= (λ z. pure (record { tree = plain.let_statement (join t.span z.span) p.tree y.0 plain.absent; height = max p.height y.1; span = join t.span z.span }))
  declared_by t p y false = refuse

  unfoldable pub let_statement : Parser (Got Statement)
  let_statement = within 1 d (do
    t ← expect symbol.Let
    p ← pattern d
    y ← annotation d
    when_next symbol.Equal (initialised t p y) (declared_by t p y (declares p.tree p.height)))

  -- the closing brace, behind statements and perhaps a tail
  abbrev pub closed : Span → List Statement → OptionalExpression → ℕ → Parser (Got Body)
  closed o found y h = expect symbol.CloseBrace >>= (λ c. pure (node (λ s. plain.body s (statements_of found) y) (join o c.span) h))

  -- behind an expression: `;`, or the end
  abbrev pub after_expression : (List Statement → ℕ → Parser (Got Body)) → Span → List Statement → ℕ → Got Expression → Parser (Got Body)
  after_expression again o found h x = when_next symbol.Semicolon
      (expect symbol.Semicolon >>= (λ z. again (found ++ plain.expression_statement (join x.span z.span) x.tree true ∷ []) (max h x.height)))
      (closed o found (plain.present x.tree) (max h x.height))

  -- behind one that ends in a block: or a further statement
  abbrev pub after_like_by : (List Statement → ℕ → Parser (Got Body)) → Span → List Statement → ℕ → Got Expression → Symbol → Parser (Got Body)
  after_like_by again o found h x symbol.Semicolon =
      expect symbol.Semicolon >>= (λ z. again (found ++ plain.expression_statement (join x.span z.span) x.tree true ∷ []) (max h x.height))
  after_like_by again o found h x symbol.CloseBrace = closed o found (plain.present x.tree) (max h x.height)
  after_like_by again o found h x _ = again (found ++ plain.expression_statement x.span x.tree false ∷ []) (max h x.height)

  abbrev pub expression_by : (List Statement → ℕ → Parser (Got Body)) → Span → List Statement → ℕ → Bool → Parser (Got Body)
  expression_by again o found h true = like >>= (λ x. next >>= after_like_by again o found h x)
  expression_by again o found h false = whole >>= after_expression again o found h

  abbrev pub statement_by : (List Statement → ℕ → Parser (Got Body)) → Span → List Statement → ℕ → Symbol → Parser (Got Body)
  statement_by again o found h symbol.CloseBrace = closed o found plain.absent h
  statement_by again o found h symbol.Let = let_statement >>= (λ a. again (found ++ a.tree ∷ []) (max h a.height))
  statement_by again o found h q = expression_by again o found h (begins_like q)

  unfoldable pub statements_from : Span → ℕ → List Statement → ℕ → Parser (Got Body)
  statements_from o zero found h = refuse
  statements_from o (suc n) found h = next >>= statement_by (statements_from o n) o found h

  unfoldable pub statements : Span → Parser (Got Body)
  statements o = λ i. statements_from o (length i) [] 0 i

  unfoldable pub block_of : Parser (Got Body)
  block_of = expect symbol.OpenBrace >>= (λ o. statements o.span)

abbrev pub opens : Symbol → Bool
opens symbol.OpenBrace = true
opens _ = false

-- of at most so many levels
unfoldable mutual
  pub operand : ℕ → Bool → ℕ → Parser (Got Expression)
  operand zero f j = next >>= (λ q. if begins_operand q then too_deep else refuse)
  operand (suc d) f j = at_strength (operand d) (whole d) (like d) (block d) d f j

  pub whole : ℕ → Parser (Got Expression)
  whole zero = next >>= (λ q. if begins_expression q then too_deep else refuse)
  whole (suc d) = next >>= whole_by (operand d) (whole d) (like d) (block d) d

  pub like : ℕ → Parser (Got Expression)
  like zero = next >>= (λ q. if begins_like q then too_deep else refuse)
  like (suc d) = next >>= like_by (operand d) (whole d) (like d) (block d) d

  pub block : ℕ → Parser (Got Body)
  block zero = next >>= (λ q. if opens q then too_deep else refuse)
  block (suc d) = block_of (whole d) (like d) d

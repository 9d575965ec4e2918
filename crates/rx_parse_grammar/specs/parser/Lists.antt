-- Parsers of lists in brackets, from behind the opening one, and of what stands in parentheses.
use Rattle.std.specs.Prelude.{ℕ, zero, suc, max, List, [], ◌∷◌, ◌++◌, length}
use Rattle.rx_core.specs.declared.types.Span.{Span}
use Rattle.rx_lex.specs.Tok.{Tok}
use Rattle.rx_parse_grammar.specs.declared.symbol.Symbol.{Symbol}
use Rattle.rx_parse_grammar.specs.declared.symbol.Symbol.TheVariants as symbol
use Rattle.rx_parse_grammar.specs.grammar.Words.{join}
use Rattle.rx_parse_grammar.specs.parser.Steps.{Parser, Got, ◌>>=◌, ◌>>◌, pure, refuse, expect, when_next, leaf, node}

-- the elements, the most levels that one has, and where the closing bracket stands
pub record Items (A : Type 0) : Type 0 where
  pub list : List A
  pub height : ℕ
  pub close : Span

module _ {A : Type 0} (close : Symbol) (element : Parser (Got A)) where
  abbrev pub closed : List A → ℕ → Parser (Items A)
  closed found h = expect close >>= (λ c. pure (record { list = found; height = h; close = c.span }))

  abbrev pub after_element : (List A → ℕ → Parser (Items A)) → List A → ℕ → Got A → Parser (Items A)
  after_element again found h x =
      when_next symbol.Comma (expect symbol.Comma >> again (found ++ x.tree ∷ []) (max h x.height)) (closed (found ++ x.tree ∷ []) (max h x.height))

  unfoldable pub elements_from : ℕ → List A → ℕ → Parser (Items A)
  elements_from zero found h = refuse
  elements_from (suc n) found h = when_next close (closed found h) (element >>= after_element (elements_from n) found h)

  -- further elements behind those that were found
  unfoldable pub elements : List A → ℕ → Parser (Items A)
  elements found h = λ i. elements_from (length i) found h i

  -- at least one
  unfoldable pub some_elements : Parser (Items A)
  some_elements = element >>= after_element elements [] 0

module _ {A : Type 0} (element : Parser (Got A)) (tuple : Span → List A → A) where
  -- behind the first element
  abbrev pub group_by : Tok → Got A → Parser (Got A)
  group_by o x = when_next symbol.Comma
      (expect symbol.Comma >> elements symbol.CloseParen element (x.tree ∷ []) x.height >>= (λ l. pure (node (λ s. tuple s l.list) (join o.span l.close) l.height)))
      (expect symbol.CloseParen >>= (λ c. pure (node (λ s. x.tree) (join o.span c.span) x.height)))

  -- what stands in parentheses: nothing, one thing that parentheses stand round, or a tuple
  unfoldable pub group : Parser (Got A)
  group = expect symbol.OpenParen >>= (λ o. when_next symbol.CloseParen
      (expect symbol.CloseParen >>= (λ c. pure (leaf (λ s. tuple s []) (join o.span c.span))))
      (element >>= group_by o))

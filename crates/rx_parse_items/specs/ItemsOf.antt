-- What the code's results stand for.
use Rattle.std.specs.Prelude.{ℕ, List, [], ◌∷◌, ◌++◌, Option, map, option_map}
use Rattle.rx_core.specs.declared.types.Span.{Span}
use Rattle.rx_tree.specs.declared.tree.Ident.{Ident}
use Rattle.rx_tree.specs.declared.tree.TypeText.{TypeText}
use Rattle.rx_tree.specs.declared.tree.Item.{Item}
use Rattle.rx_tree.specs.Plain.{TypeTree, ItemTree}
use Rattle.rx_tree.specs.PlainOf.{plain-TypeText, plain-Item}
use Rattle.rx_parse_grammar.specs.declared.symbol.Symbol.TheVariants as symbol
use Rattle.rx_parse_grammar.specs.grammar.Words.{ident}
use Rattle.rx_parse_grammar.specs.parser.Steps.{Parser, ◌>>=◌, pure, expect}
use Rattle.rx_parse_cursor.specs.declared.got.Found.{Found}

-- the items of a file, and the levels of their types and bodies
abbrev pub file_of : Found Item → List ItemTree × ℕ
file_of x = (map plain-Item x.list, x.height)

-- a result's type, where one is written, and its levels
abbrev pub result_of : Option TypeText × ℕ → Option TypeTree × ℕ
result_of r = (option_map plain-TypeText r.0, r.1)

-- one more lifetime behind those that were found, and where it stands
abbrev pub another_bound : List Ident → Parser (List Ident × Span)
another_bound found = expect symbol.Lifetime >>= (λ t. pure (found ++ ident t ∷ [], t.span))

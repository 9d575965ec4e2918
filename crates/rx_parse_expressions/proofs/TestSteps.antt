-- What an `if` or a `while` tests is read by its first symbol: the parser's own equation.
use Rattle.std.proofs.Common.{◌≡◌, ℕ, List, refl}
use Rattle.rx_lex.specs.Tok.{Tok}
use Rattle.rx_parse_grammar.specs.parser.Symbols.{peek}
use Rattle.rx_parse_grammar.specs.parser.Expressions as spec
use Rattle.rx_parse_grammar.specs.parser.Blocks.{operand, whole, like, block}
use Rattle.rx_parse_expressions.specs.Likes as likes

pub tested_is : (b : ℕ) (i : List Tok) → likes.test b i ≡ spec.test_by (operand b) (whole b) (like b) (block b) b (peek i) i
unfolding spec.test
tested_is b i = refl

-- What the code's tests of an `if` or a `while` stand for.
use Rattle.rx_tree.specs.PlainOf.{plain-Pattern, plain-Expr}
use Rattle.rx_parse_grammar.specs.grammar.Expressions as grammar
use Rattle.rx_parse_nodes.specs.declared.conditions.Test.{Test}
use Rattle.rx_parse_nodes.specs.declared.conditions.Test.TheVariants.{Condition, Fitting}

abbrev pub test_of : Test → grammar.Test
test_of (Condition x) = grammar.condition (plain-Expr x)
test_of (Fitting p x) = grammar.fitting (plain-Pattern p) (plain-Expr x)

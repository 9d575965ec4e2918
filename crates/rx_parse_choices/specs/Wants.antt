-- What the parser of expressions is asked for.
use Rattle.std.specs.Prelude.{ℕ, Bool}
use Rattle.rx_tree.specs.Plain.{Expression}
use Rattle.rx_parse_grammar.specs.declared.symbol.Symbol.{Symbol}
use Rattle.rx_parse_grammar.specs.parser.Steps.{Parser, Got}
use Rattle.rx_parse_grammar.specs.parser.Operators.{begins_operand, begins_expression, begins_like}
use Rattle.rx_parse_grammar.specs.parser.Blocks.{operand, whole, like}
use Rattle.rx_parse_choices.specs.declared.wanted.Wanted.{Wanted}
use Rattle.rx_parse_choices.specs.declared.wanted.Wanted.TheVariants.{Operand, Whole, Like}

-- of at most so many levels
abbrev pub wanted_of : Wanted → ℕ → Parser (Got Expression)
wanted_of (Operand f j) d = operand d f j
wanted_of Whole d = whole d
wanted_of Like d = like d

abbrev pub begins_wanted : Wanted → Symbol → Bool
begins_wanted (Operand f j) q = begins_operand q
begins_wanted Whole q = begins_expression q
begins_wanted Like q = begins_like q

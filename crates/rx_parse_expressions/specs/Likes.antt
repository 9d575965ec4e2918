-- The parsers of expressions that end in a block, below which so many levels may stand.
use Rattle.std.specs.Prelude.{ℕ, Option}
use Rattle.rx_tree.specs.Plain.{Expression, PatternTree}
use Rattle.rx_lex.specs.Tok.{Tok}
use Rattle.rx_parse_grammar.specs.grammar.Expressions.{Test}
use Rattle.rx_parse_grammar.specs.parser.Steps.{Parser, Got, ◌>>◌, expect, within}
use Rattle.rx_parse_grammar.specs.declared.symbol.Symbol.TheVariants as symbol
use Rattle.rx_parse_grammar.specs.parser.Lists.{Items}
use Rattle.rx_parse_grammar.specs.parser.Expressions as spec
use Rattle.rx_parse_grammar.specs.parser.Blocks.{operand, whole, like, block}

abbrev pub block_value : ℕ → Parser (Got Expression)
block_value b = spec.block_value (operand b) (whole b) (like b) (block b) b

abbrev pub let_test : ℕ → Parser (Got Test)
let_test b = spec.let_test (operand b) (whole b) (like b) (block b) b

-- what an `if` or a `while` tests
abbrev pub test : ℕ → Parser (Got Test)
test b = spec.test (operand b) (whole b) (like b) (block b) b

abbrev pub else_value : ℕ → Parser (Got Expression)
else_value b = spec.else_value (operand b) (whole b) (like b) (block b) b

-- `else`, and the other branch
abbrev pub other_branch : ℕ → Parser (Got Expression)
other_branch b = within 2 b (expect symbol.Else >> else_value b)

abbrev pub conditional : ℕ → Parser (Got Expression)
conditional b = spec.conditional (operand b) (whole b) (like b) (block b) b

abbrev pub match_value : ℕ → Parser (Got Expression)
match_value b = spec.match_value (operand b) (whole b) (like b) (block b) b

abbrev pub loop_value : ℕ → Option Tok → Parser (Got Expression)
loop_value b = spec.loop_value (operand b) (whole b) (like b) (block b) b

abbrev pub while_value : ℕ → Option Tok → Parser (Got Expression)
while_value b = spec.while_value (operand b) (whole b) (like b) (block b) b

abbrev pub labelled : ℕ → Parser (Got Expression)
labelled b = spec.labelled (operand b) (whole b) (like b) (block b) b

-- the arms in their braces
abbrev pub arm_list : ℕ → Parser (Items (PatternTree × Expression))
arm_list b = expect symbol.OpenBrace >> spec.arms (operand b) (whole b) (like b) (block b) b

-- The parsers of expressions, below which so many levels may stand.
use Rattle.std.specs.Prelude.{ℕ, max, Bool, Option}
use Rattle.rx_core.specs.declared.types.Span.{Span}
use Rattle.rx_tree.specs.declared.tree.Ident.{Ident}
use Rattle.rx_tree.specs.declared.tree.BinaryOp.{BinaryOp}
use Rattle.rx_tree.specs.Plain as plain
use Rattle.rx_tree.specs.Plain.{Expression}
use Rattle.rx_parse_grammar.specs.declared.symbol.Symbol.{Symbol}
use Rattle.rx_parse_grammar.specs.grammar.Words.{join}
use Rattle.rx_parse_grammar.specs.parser.Steps.{Parser, Got, ◌>>=◌, ◌>>◌, pure, expect, within, leaf, node}
use Rattle.rx_parse_grammar.specs.parser.Numbers.{number}
use Rattle.rx_parse_grammar.specs.parser.Operators.{Setting}
use Rattle.rx_parse_grammar.specs.parser.Expressions as spec
use Rattle.rx_parse_grammar.specs.parser.Blocks.{operand, whole, like, block}

abbrev pub member_step : ℕ → Got Expression → Symbol → Option (Parser (Got Expression))
member_step b = spec.member_step (operand b) (whole b) (like b) (block b) b

abbrev pub at_strength : ℕ → Bool → ℕ → Parser (Got Expression)
at_strength b = spec.at_strength (operand b) (whole b) (like b) (block b) b

abbrev pub whole_by : ℕ → Symbol → Parser (Got Expression)
whole_by b = spec.whole_by (operand b) (whole b) (like b) (block b) b

abbrev pub like_by : ℕ → Symbol → Parser (Got Expression)
like_by b = spec.like_by (operand b) (whole b) (like b) (block b) b

-- ---- operands

abbrev pub number_value : Parser (Got Expression)
number_value = number >>= (λ n. pure (leaf (λ s. plain.int s n.value n.suffix) n.span))

abbrev pub primary : ℕ → Bool → Parser (Got Expression)
primary b = spec.primary (operand b) (whole b) (like b) (block b) b

abbrev pub primary_by : ℕ → Bool → Symbol → Parser (Got Expression)
primary_by b = spec.primary_by (operand b) (whole b) (like b) (block b) b

abbrev pub postfix : ℕ → Bool → Parser (Got Expression)
postfix b = spec.postfix (operand b) (whole b) (like b) (block b) b

abbrev pub prefix : ℕ → Bool → Symbol → (Span → Expression → Expression) → Parser (Got Expression)
prefix b = spec.prefix (operand b) (whole b) (like b) (block b) b

abbrev pub borrow : ℕ → Bool → Parser (Got Expression)
borrow b = spec.borrow (operand b) (whole b) (like b) (block b) b

abbrev pub borrow_twice : ℕ → Bool → Parser (Got Expression)
borrow_twice b = spec.borrow_twice (operand b) (whole b) (like b) (block b) b

abbrev pub unary : ℕ → Bool → Parser (Got Expression)
unary b = spec.unary (operand b) (whole b) (like b) (block b) b

abbrev pub unary_by : ℕ → Bool → Symbol → Parser (Got Expression)
unary_by b = spec.unary_by (operand b) (whole b) (like b) (block b) b

abbrev pub binary_step : ℕ → Bool → ℕ → Got Expression → Symbol → Option (Parser (Got Expression))
binary_step b = spec.binary_step (operand b) (whole b) (like b) (block b) b

-- the operator and the operand on the right alone, behind one of so many levels
unfoldable pub right : ℕ → Bool → ℕ → ℕ → Symbol → Parser (Got Expression)
right b f j h q = within h b (expect q >> operand b f j)

-- the whole of an operator and its operands
abbrev pub binary : BinaryOp → Got Expression → Got Expression → Got Expression
binary o l r = node (λ s. plain.binary s o l.tree r.tree) (join l.span r.span) (max l.height r.height)

-- what stands on the left, the operator and the operand on the right: the grammar's `longer`
unfoldable pub longer : ℕ → Bool → ℕ → Got Expression → Symbol → BinaryOp → Parser (Got Expression)
longer b f j l q o = right b f j l.height q >>= (λ r. pure (binary o l r))

-- ---- whole expressions

abbrev pub return_value : ℕ → Parser (Got Expression)
return_value b = spec.return_value (operand b) (whole b) (like b) (block b) b

abbrev pub jump : ℕ → Symbol → (Span → Option Ident → Expression) → Parser (Got Expression)
jump b = spec.jump (operand b) (whole b) (like b) (block b) b

abbrev pub set_by : ℕ → Got Expression → Symbol → Option Setting → Parser (Got Expression)
set_by b = spec.set_by (operand b) (whole b) (like b) (block b) b

abbrev pub set_or_operand : ℕ → Parser (Got Expression)
set_or_operand b = spec.set_or_operand (operand b) (whole b) (like b) (block b) b

abbrev pub set_as : ℕ → Setting → Span → Expression → Expression → Expression
set_as b = spec.set_as (operand b) (whole b) (like b) (block b) b

-- the symbol of an assignment and the value on the right alone
unfoldable pub value : ℕ → ℕ → Symbol → Parser (Got Expression)
value b h q = within h b (expect q >> whole b)

-- the whole of an assignment
abbrev pub assignment : ℕ → Setting → Got Expression → Got Expression → Got Expression
assignment b u l r = node (λ s. set_as b u s l.tree r.tree) (join l.span r.span) (max l.height r.height)

-- what stands on the left, the symbol and the value on the right: the grammar's `set_by` of a symbol that sets
unfoldable pub set : ℕ → Got Expression → Symbol → Setting → Parser (Got Expression)
set b l q u = value b l.height q >>= (λ r. pure (assignment b u l r))

-- How weakly an expression holds together, from the strongest: a primary or a step to a field, an operand of the grammar's
-- strengths, and what is no operand.
use Rattle.std.specs.Prelude.{ℕ, suc}
use Rattle.rx_parse_grammar.specs.grammar.Strengths as operand

abbrev pub postfix : ℕ
postfix = 0

abbrev pub unary : ℕ
unary = suc operand.unary

abbrev pub product : ℕ
product = suc operand.product

abbrev pub sum : ℕ
sum = suc operand.sum

abbrev pub comparison : ℕ
comparison = suc operand.comparison

abbrev pub conjunction : ℕ
conjunction = suc operand.conjunction

abbrev pub disjunction : ℕ
disjunction = suc operand.disjunction

-- an assignment or a jump
abbrev pub jump : ℕ
jump = suc disjunction

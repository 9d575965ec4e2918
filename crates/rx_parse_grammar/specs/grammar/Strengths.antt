-- The strengths of operands, from the strongest (Rust Reference, "Expression precedence"): a place for an operand of some
-- strength takes the stronger ones too.
use Rattle.std.specs.Prelude.{ℕ, suc}

abbrev pub unary : ℕ
unary = 0

abbrev pub product : ℕ
product = suc unary

abbrev pub sum : ℕ
sum = suc product

abbrev pub comparison : ℕ
comparison = suc sum

abbrev pub conjunction : ℕ
conjunction = suc comparison

abbrev pub disjunction : ℕ
disjunction = suc conjunction

-- The operators as functions of symbols, and what expressions begin with.
use Rattle.std.specs.Prelude.{ℕ, Bool, true, false, if◌then◌else◌, ◌==◌, Option, Some, None}
use Rattle.rx_tree.specs.declared.tree.BinaryOp.{BinaryOp}
use Rattle.rx_tree.specs.declared.tree.BinaryOp.TheVariants as op
use Rattle.rx_tree.specs.declared.tree.UpdateOp.{UpdateOp}
use Rattle.rx_tree.specs.declared.tree.UpdateOp.TheVariants as update_op
use Rattle.rx_parse_grammar.specs.grammar.Strengths as at
use Rattle.rx_parse_grammar.specs.declared.symbol.Symbol.{Symbol}
use Rattle.rx_parse_grammar.specs.declared.symbol.Symbol.TheVariants as symbol

-- of the operator that a symbol is
abbrev pub strength : Symbol → ℕ
strength symbol.Star = at.product
strength symbol.Slash = at.product
strength symbol.Percent = at.product
strength symbol.Plus = at.sum
strength symbol.Minus = at.sum
strength symbol.EqualEqual = at.comparison
strength symbol.NotEqual = at.comparison
strength symbol.Less = at.comparison
strength symbol.LessEqual = at.comparison
strength symbol.Greater = at.comparison
strength symbol.GreaterEqual = at.comparison
strength symbol.AndAnd = at.conjunction
strength symbol.OrOr = at.disjunction
strength _ = 0

abbrev pub operator : Symbol → Option BinaryOp
operator symbol.Star = Some op.Mul
operator symbol.Slash = Some op.Div
operator symbol.Percent = Some op.Rem
operator symbol.Plus = Some op.Add
operator symbol.Minus = Some op.Sub
operator symbol.EqualEqual = Some op.Eq
operator symbol.NotEqual = Some op.Ne
operator symbol.Less = Some op.Lt
operator symbol.LessEqual = Some op.Le
operator symbol.Greater = Some op.Gt
operator symbol.GreaterEqual = Some op.Ge
operator symbol.AndAnd = Some op.And
operator symbol.OrOr = Some op.Or
operator _ = None

-- the operator of this strength that a symbol is
unfoldable pub operator_at : ℕ → Symbol → Option BinaryOp
operator_at j q = if strength q == j then operator q else None

-- `=` alone, or with an operator
pub data Setting : Type 0 where
  assigns : Setting
  updates : UpdateOp → Setting

abbrev pub setting : Symbol → Option Setting
setting symbol.Equal = Some assigns
setting symbol.PlusEqual = Some (updates update_op.Add)
setting symbol.MinusEqual = Some (updates update_op.Sub)
setting symbol.StarEqual = Some (updates update_op.Mul)
setting symbol.SlashEqual = Some (updates update_op.Div)
setting symbol.PercentEqual = Some (updates update_op.Rem)
setting _ = None

-- what an expression that ends in a block begins with
abbrev pub begins_like : Symbol → Bool
begins_like symbol.OpenBrace = true
begins_like symbol.If = true
begins_like symbol.Match = true
begins_like symbol.Loop = true
begins_like symbol.While = true
begins_like symbol.Lifetime = true
begins_like _ = false

abbrev pub begins_operand : Symbol → Bool
begins_operand symbol.Number = true
begins_operand symbol.True = true
begins_operand symbol.False = true
begins_operand symbol.Name = true
begins_operand symbol.OpenParen = true
begins_operand symbol.Minus = true
begins_operand symbol.Bang = true
begins_operand symbol.Star = true
begins_operand symbol.Ampersand = true
begins_operand symbol.AndAnd = true
begins_operand symbol.OpenBrace = true
begins_operand symbol.If = true
begins_operand symbol.Match = true
begins_operand symbol.Loop = true
begins_operand symbol.While = true
begins_operand symbol.Lifetime = true
begins_operand _ = false

abbrev pub begins_expression : Symbol → Bool
begins_expression symbol.Return = true
begins_expression symbol.Break = true
begins_expression symbol.Continue = true
begins_expression symbol.Number = true
begins_expression symbol.True = true
begins_expression symbol.False = true
begins_expression symbol.Name = true
begins_expression symbol.OpenParen = true
begins_expression symbol.Minus = true
begins_expression symbol.Bang = true
begins_expression symbol.Star = true
begins_expression symbol.Ampersand = true
begins_expression symbol.AndAnd = true
begins_expression symbol.OpenBrace = true
begins_expression symbol.If = true
begins_expression symbol.Match = true
begins_expression symbol.Loop = true
begins_expression symbol.While = true
begins_expression symbol.Lifetime = true
begins_expression _ = false

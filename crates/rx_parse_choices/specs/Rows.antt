-- Operators of one strength in a row.
use Rattle.std.specs.Prelude.{ℕ, if◌then◌else◌, ◌==◌}
use Rattle.rx_parse_grammar.specs.grammar.Strengths as at

-- how many may stand behind an operand of strength j, where so many tokens are left: comparisons don't group
abbrev pub turns : ℕ → ℕ → ℕ
turns j n = if j == at.sum then 1 else n

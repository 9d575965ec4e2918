-- A function that stays, by other numbers: its nodes, variables and loops keep theirs.
use Rattle.std.specs.Prelude.{ℕ}
use Rattle.rx_engine_blocks.specs.Renumbering.{Renumbering}

abbrev pub kept : (ℕ → ℕ) → Renumbering
kept items = record { nodes = λ n. n; variables = λ x. x; items = items }

abbrev pub same : ℕ → ℕ
same l = l

use Rattle.std.proofs.Common.{ℕ, ◌+◌, ◌-◌, ◌*◌, List, length, map}
use Rattle.rx_typed.specs.Tree.{Pattern}
use Rattle.rx_cover.specs.Matrices.{rows_weight}
use Rattle.rx_cover.specs.PlainCells.{plain-Row, plain-Cells}
use Rattle.rx_cover.proofs.missing.+missing.Given as goal

-- how much is asked comes first, then the heads that are left, of which there are fewer than 2 ^ 64
abbrev measure : ℕ → List (List Pattern) → ℕ → ℕ
measure columns rows least = 36893488147419103240 * (columns + rows_weight rows) + least

abbrev pub decreases-missing : goal.decreases-missing
decreases-missing l = measure (length l.columns.now) (map plain-Row l.rows.now) 36893488147419103236

abbrev pub decreases-split : goal.decreases-split
decreases-split l = measure (1 + length l.rest.now) (map plain-Row l.rows.now) 36893488147419103235

abbrev pub decreases-by_heads : goal.decreases-by_heads
decreases-by_heads l = measure (1 + length l.rest.now) (map plain-Row l.rows.now) 36893488147419103234

abbrev pub decreases-in_range : goal.decreases-in_range
decreases-in_range l = measure (1 + length l.rest.now) (map plain-Cells l.rows.now) (2 * (l.high - l.low) + 1)

abbrev pub decreases-by_range : goal.decreases-by_range
decreases-by_range l = measure (1 + length l.rest.now) (map plain-Cells l.rows.now) (2 * (l.high - l.low))

abbrev pub decreases-at_head : goal.decreases-at_head
decreases-at_head l = measure (1 + length l.rest.now) (map plain-Cells l.rows.now) 0

abbrev pub decreases-by_others : goal.decreases-by_others
decreases-by_others l = measure (1 + length l.rest.now) (map plain-Row l.rows.now) 0

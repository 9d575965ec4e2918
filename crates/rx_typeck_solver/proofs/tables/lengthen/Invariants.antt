use Rattle.std.proofs.Common.{◌≡◌, ◌≤◌, ◌⊎◌, ◌+◌, ◌-◌, ℕ, length, get_or, None}
use Rattle.rx_typeck_solver.proofs.tables.lengthen.Given as goal

abbrev pub invariant-loop-table : goal.invariant-loop-table
invariant-loop-table l = ((z : ℕ) → get_or l.table.items z None ≡ get_or l.fn.table.items z None)
    × ((l.table.items ≡ l.fn.table.items) ⊎ (length l.table.items ≤ l.at + 1))

abbrev pub decreases-loop-table : goal.decreases-loop-table
decreases-loop-table l = l.at + 1 - length l.table.items

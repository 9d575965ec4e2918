use Rattle.std.proofs.Common.{◌≡◌, ℕ, false, length, get_or}
use Rattle.rx_typeck_solver.proofs.last.no_marks.Given as goal

abbrev pub invariant-loop-mark : goal.invariant-loop-mark
invariant-loop-mark l = (length l.marks.items ≡ l._mark) × ((c : ℕ) → get_or l.marks.items c false ≡ false)

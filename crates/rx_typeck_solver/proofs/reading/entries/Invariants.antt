use Rattle.std.proofs.Common.{◌≡◌, ℕ, List, drop, ◌++◌, Some}
use Rattle.rx_typeck_solver.specs.Solver.{terms_at}
use Rattle.rx_typeck_solver.specs.Tabled.{index_of}
use Rattle.rx_typeck_solver.proofs.reading.entries.Given as goal

abbrev pub invariant-loop-of : goal.invariant-loop-of
invariant-loop-of l = (rest : List ℕ) → terms_at (index_of l.tables) (drop l.of-index l.fn.of) ≡ Some rest → terms_at (index_of l.tables) l.fn.of ≡ Some (l.all.items ++ rest)

use Rattle.std.proofs.Common.{◌≡◌, drop, Some}
use Rattle.rx_typeck_solver.specs.declared.reading.Passed.{Passed}
use Rattle.rx_typeck_solver.specs.Tabled.{table_of}
use Rattle.rx_typeck_solver.specs.Reading.{both, sum_at}
use Rattle.rx_typeck_solver.proofs.reading.dereferences.Given as goal

abbrev pub invariant-loop-passing : goal.invariant-loop-passing
invariant-loop-passing l = (rest : Passed) → sum_at (table_of l.arena.entries.items l.tables) (drop l.passing-index l.at) ≡ Some rest → sum_at (table_of l.arena.entries.items l.tables) l.fn.at ≡ Some (both l.sum rest)

use Rattle.std.proofs.Common.{drop}
use Rattle.rx_typeck_solver.specs.Cells.{Formable}
use Rattle.rx_typeck_solver.specs.Tabled.{Sized}
use Rattle.rx_typeck_solver.specs.Growing.{closed_all}
use Rattle.rx_typeck_solver.proofs.Growth.{GrownBefore}
use Rattle.rx_typeck_solver.proofs.import.+import.Given as goal

abbrev pub invariant-import_all-loop-ty : goal.invariant-import_all-loop-ty
invariant-import_all-loop-ty l = Formable l.arena.entries.items × Sized l.sizes l.arena.entries.items × GrownBefore l.sizes l.fn.arena.entries.items l.arena.entries.items l.entries.items (closed_all (drop l.ty-index l.all)) (closed_all l.fn.all)

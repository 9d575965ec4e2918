use Rattle.std.proofs.Common.{◌≡◌, drop}
use Rattle.rx_typeck_solver.specs.Solver.{solve}
use Rattle.rx_typeck_solver.specs.Tabled.{state_of, Fits, Sized}
use Rattle.rx_typeck_solver.specs.Stepping.{known}
use Rattle.rx_typeck_solver.proofs.demands.take_demands.Given as goal

abbrev pub invariant-loop-demand : goal.invariant-loop-demand
invariant-loop-demand l = Fits l.arena.entries.items l.tables × Sized l.sizes l.arena.entries.items × (solve (known l.items l.sizes) (drop l.demand-index l.demands) (state_of l.arena.entries.items l.tables) ≡ solve (known l.items l.sizes) l.fn.demands (state_of l.fn.arena.entries.items l.fn.tables))

use Rattle.std.proofs.Common.{◌≡◌, drop}
use Rattle.rx_typeck_solver.specs.Solver.{take_all}
use Rattle.rx_typeck_solver.specs.Tabled.{state_of, Fits, Sized}
use Rattle.rx_typeck_solver.specs.Stepping.{known}
use Rattle.rx_typeck_solver.proofs.take.take_all.Given as goal

abbrev pub invariant-loop-fact : goal.invariant-loop-fact
invariant-loop-fact l = Fits l.arena.entries.items l.tables × Sized l.sizes l.arena.entries.items × (take_all (known l.items l.sizes) (drop l.fact-index l.facts) (state_of l.arena.entries.items l.tables) ≡ take_all (known l.items l.sizes) l.fn.facts (state_of l.fn.arena.entries.items l.fn.tables))

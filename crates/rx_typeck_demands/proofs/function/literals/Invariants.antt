use Rattle.std.proofs.Common.{◌≡◌, ◌++◌, drop}
use Rattle.rx_typeck_solver.specs.Valid.{literals_of}
use Rattle.rx_typeck_demands.proofs.function.literals.Given as goal

abbrev pub invariant-loop-demand : goal.invariant-loop-demand
invariant-loop-demand l = l.literals.items ++ literals_of (drop l.demand-index l.demands) ≡ literals_of l.fn.demands

use Rattle.std.proofs.Common.{◌≡◌, ◌++◌, map, drop}
use Rattle.rx_typed.specs.Renaming.{argument, bound_renamed}
use Rattle.rx_typed.proofs.renaming.bounds_renamed.Given as goal

abbrev pub invariant-loop-bound : goal.invariant-loop-bound
invariant-loop-bound l = l.all ++ map (bound_renamed (argument l.arguments)) (drop l.bound-index l.bounds) ≡ map (bound_renamed (argument l.arguments)) l.fn.bounds

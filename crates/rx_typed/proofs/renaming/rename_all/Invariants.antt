use Rattle.std.proofs.Common.{◌≡◌, ◌++◌, map, drop}
use Rattle.rx_typed.specs.Renaming.{argument}
use Rattle.rx_typed.proofs.renaming.rename_all.Given as goal

abbrev pub invariant-loop-lifetime : goal.invariant-loop-lifetime
invariant-loop-lifetime l = l.all ++ map (argument l.arguments) (drop l.lifetime-index l.lifetimes) ≡ map (argument l.arguments) l.fn.lifetimes

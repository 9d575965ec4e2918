use Rattle.std.proofs.Common.{◌≡◌, ◌++◌, map, drop}
use Rattle.rx_lower_lifetimes.specs.PlainOf.{plain-Told}
use Rattle.rx_lower.specs.Functions.{written}
use Rattle.rx_lower.proofs.all_told.Given as goal

abbrev pub invariant-loop-annotation : goal.invariant-loop-annotation
invariant-loop-annotation l = map plain-Told l.all ++ map written (drop l.annotation-index l.annotations) ≡ map written l.fn.annotations

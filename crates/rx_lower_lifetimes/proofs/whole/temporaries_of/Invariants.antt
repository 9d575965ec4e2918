use Rattle.std.proofs.Common.{◌≡◌, ◌++◌, map, drop}
use Rattle.rx_lower_walks.specs.PlainFlow.{plain-Temporary}
use Rattle.rx_lower_lifetimes.specs.PlainOf.{plain-Held}
use Rattle.rx_lower_lifetimes.proofs.whole.temporaries_of.Given as goal

abbrev pub invariant-loop-one : goal.invariant-loop-one
invariant-loop-one l = map plain-Temporary l.all ++ map (λ h. h.temporary) (map plain-Held (drop l.one-index l.held)) ≡ map (λ h. h.temporary) (map plain-Held l.fn.held)

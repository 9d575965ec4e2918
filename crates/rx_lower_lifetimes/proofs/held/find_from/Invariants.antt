use Rattle.std.proofs.Common.{◌≡◌, ◌+◌, map, drop}
use Rattle.rx_lower_walks.specs.PlainFlow.{plain-Temporary}
use Rattle.rx_lower_lifetimes.specs.Finding.{place_of}
use Rattle.rx_lower_lifetimes.specs.PlainOf.{plain-Held}
use Rattle.rx_lower_lifetimes.proofs.held.find_from.Given as goal

abbrev pub invariant-loop-i : goal.invariant-loop-i
invariant-loop-i l = l.i + place_of (map plain-Held (drop l.i l.held)) (plain-Temporary l.temporary) ≡ place_of (map plain-Held l.fn.held) (plain-Temporary l.fn.temporary)

use Rattle.std.proofs.Common.{◌≡◌, drop}
use Rattle.rx_typed.specs.TypedPlaces.{is_front}
use Rattle.rx_lower_walks.proofs.places.is_front.Given as goal

abbrev pub invariant-loop-i : goal.invariant-loop-i
invariant-loop-i l = is_front (drop l.i l.front) (drop l.i l.steps) ≡ is_front l.front l.steps

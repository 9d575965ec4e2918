-- What stands at the place in all stands there in those that are left.
use Rattle.std.proofs.Common.{◌≡◌, map, drop}
use Rattle.rx_hoist_plan.specs.declared.plan.KindPin.{KindPin}
use Rattle.rx_hoist_extraction.specs.Pinned.{at_place}
use Rattle.rx_hoist_changes.proofs.pinning.kind_at.Given as goal

abbrev pub invariant-loop-pin : goal.invariant-loop-pin
invariant-loop-pin l =
    at_place (map (λ (k : KindPin). (k.span, k.kind)) (drop l.pin-index l.pins)) l.span
    ≡ at_place (map (λ (k : KindPin). (k.span, k.kind)) l.pins) l.span

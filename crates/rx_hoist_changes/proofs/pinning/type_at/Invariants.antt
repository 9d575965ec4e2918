-- What stands at the place in all stands there in those that are left.
use Rattle.std.proofs.Common.{◌≡◌, map, drop}
use Rattle.rx_typed.specs.PlainTypes.{plain-Ty}
use Rattle.rx_hoist_plan.specs.declared.plan.TypePin.{TypePin}
use Rattle.rx_hoist_extraction.specs.Pinned.{at_place}
use Rattle.rx_hoist_changes.proofs.pinning.type_at.Given as goal

abbrev pub invariant-loop-pin : goal.invariant-loop-pin
invariant-loop-pin l =
    at_place (map (λ (t : TypePin). (t.span, plain-Ty t.ty)) (drop l.pin-index l.pins)) l.span
    ≡ at_place (map (λ (t : TypePin). (t.span, plain-Ty t.ty)) l.pins) l.span

use Rattle.std.proofs.Common.{◌≡◌, drop}
use Rattle.rx_typed.specs.Regions.{region-Ty}
use Rattle.rx_typed.specs.Places.{place_type}
use Rattle.rx_typed.specs.Standing.{stands}
use Rattle.rx_typed.proofs.places.place_type.Given as goal

abbrev pub invariant-loop-step : goal.invariant-loop-step
invariant-loop-step l = place_type l.decls.items (stands l.at) (drop l.step-index l.steps) ≡ place_type l.fn.decls.items (region-Ty l.fn.ty) l.fn.steps

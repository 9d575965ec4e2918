use Rattle.std.proofs.Common.{ap}
use Rattle.rx_typed.specs.Regions.{region-Ty}
use Rattle.rx_typed.specs.Places.{place_type}
use Rattle.rx_typed.proofs.Loops.{renamed_same}
use Rattle.rx_typed.proofs.places.place_type.Goals as goal

pub loop-step-init : goal.loop-step-init
loop-step-init c = ap (λ t. place_type c.args.decls.now.items t c.args.steps.now) (renamed_same (region-Ty c.args.ty.now))

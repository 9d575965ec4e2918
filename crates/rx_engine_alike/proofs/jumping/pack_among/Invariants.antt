-- Those that are passed are others.
use Rattle.std.proofs.Common.{◌≡◌, drop, map}
use Rattle.rx_exits_plan.specs.PlainPlan.{plain-Exit, outs_in}
use Rattle.rx_exits_plan.specs.declared.plan.ExitOuts.{ExitOuts}
use Rattle.rx_engine_related.specs.Leaving.{place_from, pack_if}
use Rattle.rx_engine_alike.proofs.jumping.pack_among.Given as goal

abbrev pub invariant-loop-variant : goal.invariant-loop-variant
invariant-loop-variant l =
    pack_if (outs_in (drop l.variant l.exits) (plain-Exit l.exit)) (place_from l.variant (plain-Exit l.exit) (map (λ (e : ExitOuts). plain-Exit e.exit) (drop l.variant l.exits)))
    ≡ pack_if (outs_in l.exits (plain-Exit l.exit)) (place_from 0 (plain-Exit l.exit) (map (λ (e : ExitOuts). plain-Exit e.exit) l.exits))

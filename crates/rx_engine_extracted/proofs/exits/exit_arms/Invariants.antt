-- The arms for those that are passed do as the text.
use Rattle.std.proofs.Common.{◌≡◌, map, drop}
use Rattle.rx_typed.specs.PlainTree.{plain-Arm, arms_of}
use Rattle.rx_exits_plan.specs.PlainPlan.{plain-Exit}
use Rattle.rx_exits_plan.specs.declared.plan.ExitOuts.{ExitOuts}
use Rattle.rx_engine_alike.specs.PlainSights.{plain-Renaming}
use Rattle.rx_engine_extracted.specs.Arms.{exit_arms}
use Rattle.rx_engine_extracted.specs.PlainTold.{plain-Told}
use Rattle.rx_engine_extracted.specs.PlainArms.{jumps_around}
use Rattle.rx_engine_extracted.proofs.exits.exit_arms.Given as goal

abbrev pub invariant-loop-listed : goal.invariant-loop-listed
invariant-loop-listed l =
    exit_arms (plain-Told l.told) l.told_here.unit (jumps_around l.told_here.loops.now) (plain-Renaming l.told_here.renaming.now) (arms_of (map plain-Arm l.arms)) (map (λ
    (e : ExitOuts). plain-Exit e.exit) (drop l.listed-index l.exits))
    ≡ exit_arms (plain-Told l.told) l.told_here.unit (jumps_around l.told_here.loops.now) (plain-Renaming l.told_here.renaming.now) (arms_of (map plain-Arm l.arms)) (map (λ
    (e : ExitOuts). plain-Exit e.exit) l.exits)

-- Those that are passed are of other variants.
use Rattle.std.proofs.Common.{◌≡◌, map, drop}
use Rattle.rx_typed.specs.PlainTree.{plain-Arm, arms_of}
use Rattle.rx_engine_extracted.specs.Arms.{arm_for}
use Rattle.rx_engine_extracted.proofs.arms.arm_for.Given as goal

abbrev pub invariant-loop-arm : goal.invariant-loop-arm
invariant-loop-arm l = arm_for l.variant (arms_of (map plain-Arm (drop l.arm-index l.arms))) ≡ arm_for l.variant (arms_of (map plain-Arm l.arms))

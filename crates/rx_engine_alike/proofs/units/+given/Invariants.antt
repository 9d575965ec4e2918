-- Those that are passed do.
use Rattle.std.proofs.Common.{◌≡◌, drop, map}
use Rattle.rx_typed.specs.PlainTree.{plain-Arm, arms_of}
use Rattle.rx_engine_alike.specs.Units.{all_give_unit}
use Rattle.rx_engine_alike.proofs.units.+given.Given as goal

abbrev pub invariant-all_give_unit-loop-arm : goal.invariant-all_give_unit-loop-arm
invariant-all_give_unit-loop-arm l = all_give_unit l.units (arms_of (map plain-Arm (drop l.arm-index l.arms))) ≡ all_give_unit l.units (arms_of (map plain-Arm l.arms))

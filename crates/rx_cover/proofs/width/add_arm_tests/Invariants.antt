use Rattle.std.proofs.Common.{◌≡◌, map, drop}
use Rattle.rx_typed.specs.PlainTree.{plain-Arm, arms_of}
use Rattle.rx_cover.specs.Choices.{patterns_of}
use Rattle.rx_cover.specs.Width.{arm_tests}
use Rattle.rx_cover.specs.PlainTested.{plain-Tested}
use Rattle.rx_cover.proofs.width.add_arm_tests.Given as goal

abbrev pub invariant-loop-arm : goal.invariant-loop-arm
invariant-loop-arm l = (arm_tests (map plain-Tested l.table.items) l.path.items (patterns_of (arms_of (map plain-Arm (drop l.arm-index l.arms)))) ≡ arm_tests (map plain-Tested l.fn.table.items) l.fn.path.items (patterns_of (arms_of (map plain-Arm l.fn.arms)))) × (l.path.items ≡ l.fn.path.items)

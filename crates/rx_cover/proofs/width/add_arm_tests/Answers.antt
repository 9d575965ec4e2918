use Rattle.std.proofs.Common.{◌∙◌, ap, sym, map, drop, ◌+◌}
use Rattle.rx_typed.specs.PlainTree.{plain-Arm, arms_of}
use Rattle.rx_cover.specs.Choices.{patterns_of}
use Rattle.rx_cover.specs.PlainTested.{plain-Tested}
use Rattle.rx_cover.specs.Width.{arm_tests}
use Rattle.rx_cover.proofs.WidthLemmas.{arms_tests_next}
use Rattle.rx_cover.proofs.width.add_arm_tests.Goals as goal

pub loop-arm-preserved : goal.loop-arm-preserved
loop-arm-preserved c =
    let rest = patterns_of (arms_of (map plain-Arm (drop (c.loop-arm.arm-index + 1) c.args.arms.now))) in (
      ap (λ q. arm_tests (map plain-Tested c.add_tests.new.table.items) q rest) c.in_ok-add_tests.ensures.path
          ∙ ap (λ m. arm_tests m c.loop-arm.path.items rest) c.in_ok-add_tests.ensures.table
          ∙ sym (arms_tests_next (map plain-Tested c.loop-arm.table.items) c.loop-arm.path.items c.args.arms.now c.loop-arm.arm-index c.arm-item.result c.loop-arm-test.true c.arm-item.is)
          ∙ c.loop-arm.invariant.0,
      c.in_ok-add_tests.ensures.path ∙ c.loop-arm.invariant.1,
    )

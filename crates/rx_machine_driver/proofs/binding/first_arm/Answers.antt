use Rattle.std.proofs.Common.{◌+◌, option_map, drop, Some, ap, sym, ◌∙◌, arith}
use Rattle.rx_typed.specs.PlainTree.{plain-Pattern, plain-Expr}
use Rattle.rx_machine_values.specs.PlainValues.{plain-Part}
use Rattle.rx_machine_values.specs.PlainMemory.{plain-Memory}
use Rattle.rx_machine_frames.specs.Choosing.{if_holds}
use Rattle.rx_machine_driver.specs.PlainSteps.{arms_in}
use Rattle.rx_machine_driver.specs.Binding.{arm_of}
use Rattle.rx_machine_driver.proofs.BindLemmas.{arms_at}
use Rattle.rx_machine_driver.proofs.binding.first_arm.Goals as goal

pub returns-in-Some-true : goal.returns-in-Some-true
returns-in-Some-true c =
    ap (λ b. if_holds b (Some (plain-Pattern c.arm-item.result.pattern, plain-Expr c.arm-item.result.body)) (arm_of (plain-Memory c.args.memory.now) (option_map plain-Part c.args.part) (arms_in (drop (c.loop-arm.arm-index + 1) c.args.arms.now)))) (ap Some (sym c.in-Some-true.field-0-test) ∙ sym c.in-Some-true.is)
    ∙ arms_at (plain-Memory c.args.memory.now) (option_map plain-Part c.args.part) c.args.arms.now c.loop-arm.arm-index c.arm-item.result c.holds.result
    (let e = c.loop-arm-test.true in omega (arith, e)) c.arm-item.is c.holds.ensures c.loop-arm.invariant

pub returns-in-None : goal.returns-in-None
returns-in-None c =
    ap (λ b. if_holds b (Some (plain-Pattern c.arm-item.result.pattern, plain-Expr c.arm-item.result.body)) (arm_of (plain-Memory c.args.memory.now) (option_map plain-Part c.args.part) (arms_in (drop (c.loop-arm.arm-index + 1) c.args.arms.now)))) (sym c.in-None.is)
    ∙ arms_at (plain-Memory c.args.memory.now) (option_map plain-Part c.args.part) c.args.arms.now c.loop-arm.arm-index c.arm-item.result c.holds.result
    (let e = c.loop-arm-test.true in omega (arith, e)) c.arm-item.is c.holds.ensures c.loop-arm.invariant

pub loop-arm-preserved : goal.loop-arm-preserved
loop-arm-preserved c =
    ap (λ b. if_holds b (Some (plain-Pattern c.arm-item.result.pattern, plain-Expr c.arm-item.result.body)) (arm_of (plain-Memory c.args.memory.now) (option_map plain-Part c.args.part) (arms_in (drop (c.loop-arm.arm-index + 1) c.args.arms.now)))) (ap Some (sym c.in-Some-false.field-0-test) ∙ sym c.in-Some-false.is)
    ∙ arms_at (plain-Memory c.args.memory.now) (option_map plain-Part c.args.part) c.args.arms.now c.loop-arm.arm-index c.arm-item.result c.holds.result
    (let e = c.loop-arm-test.true in omega (arith, e)) c.arm-item.is c.holds.ensures c.loop-arm.invariant

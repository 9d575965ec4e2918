use Rattle.std.proofs.Common.{◌≡◌, option_map, drop}
use Rattle.rx_machine_values.specs.PlainMemory.{plain-Memory}
use Rattle.rx_machine_values.specs.PlainValues.{plain-Part}
use Rattle.rx_machine_driver.specs.PlainSteps.{arms_in}
use Rattle.rx_machine_driver.specs.Binding.{arm_of}
use Rattle.rx_machine_driver.proofs.binding.first_arm.Given as goal

abbrev pub invariant-loop-arm : goal.invariant-loop-arm
invariant-loop-arm l =
    arm_of (plain-Memory l.memory) (option_map plain-Part l.part) (arms_in (drop l.arm-index l.arms)) ≡ arm_of (plain-Memory l.fn.memory) (option_map plain-Part l.fn.part) (arms_in l.fn.arms)

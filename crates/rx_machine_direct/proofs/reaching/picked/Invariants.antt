use Rattle.std.proofs.Common.{◌≡◌, drop}
use Rattle.rx_machine_direct.specs.Direct.{picked}
use Rattle.rx_machine_direct.specs.PlainScalar.{plain-Scalar}
use Rattle.rx_machine_direct.specs.PlainReached.{arms_in}
use Rattle.rx_machine_direct.proofs.reaching.picked.Given as goal

abbrev pub invariant-loop-arm : goal.invariant-loop-arm
invariant-loop-arm l = picked (plain-Scalar l.scalar) (arms_in (drop l.arm-index l.arms)) ≡ picked (plain-Scalar l.fn.scalar) (arms_in l.fn.arms)

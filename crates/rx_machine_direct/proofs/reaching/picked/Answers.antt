use Rattle.std.proofs.Common.{◌+◌, drop, Some, ap, sym, ◌∙◌, arith}
use Rattle.rx_typed.specs.PlainTree.{plain-Expr}
use Rattle.rx_machine_direct.specs.Direct.{if_fits, picked}
use Rattle.rx_machine_direct.specs.PlainScalar.{plain-Scalar}
use Rattle.rx_machine_direct.specs.PlainReached.{arms_in}
use Rattle.rx_machine_direct.proofs.TableLemmas.{arms_at}
use Rattle.rx_machine_direct.proofs.reaching.picked.Goals as goal

pub returns-in-Some-true : goal.returns-in-Some-true
returns-in-Some-true c =
    ap (λ b. if_fits b (plain-Expr c.arm-item.result.body) (picked (plain-Scalar c.args.scalar) (arms_in (drop (c.loop-arm.arm-index + 1) c.args.arms.now)))) (ap Some (sym c.in-Some-true.field-0-test) ∙ sym c.in-Some-true.is)
    ∙ arms_at (plain-Scalar c.args.scalar) c.args.arms.now c.loop-arm.arm-index c.arm-item.result c.fits.result
    (let e = c.loop-arm-test.true in omega (arith, e)) c.arm-item.is c.fits.ensures c.loop-arm.invariant

pub returns-in-None : goal.returns-in-None
returns-in-None c =
    ap (λ b. if_fits b (plain-Expr c.arm-item.result.body) (picked (plain-Scalar c.args.scalar) (arms_in (drop (c.loop-arm.arm-index + 1) c.args.arms.now)))) (sym c.in-None.is)
    ∙ arms_at (plain-Scalar c.args.scalar) c.args.arms.now c.loop-arm.arm-index c.arm-item.result c.fits.result
    (let e = c.loop-arm-test.true in omega (arith, e)) c.arm-item.is c.fits.ensures c.loop-arm.invariant

pub loop-arm-preserved : goal.loop-arm-preserved
loop-arm-preserved c =
    ap (λ b. if_fits b (plain-Expr c.arm-item.result.body) (picked (plain-Scalar c.args.scalar) (arms_in (drop (c.loop-arm.arm-index + 1) c.args.arms.now)))) (ap Some (sym c.in-Some-false.field-0-test) ∙ sym c.in-Some-false.is)
    ∙ arms_at (plain-Scalar c.args.scalar) c.args.arms.now c.loop-arm.arm-index c.arm-item.result c.fits.result
    (let e = c.loop-arm-test.true in omega (arith, e)) c.arm-item.is c.fits.ensures c.loop-arm.invariant

use Rattle.std.proofs.Common.{arith}
use Rattle.rx_lex.proofs.NumeralLaws.{too_great}
use Rattle.rx_lex.proofs.numeral.value.Goals as goal

pub returns-in_err-checked_mul : goal.returns-in_err-checked_mul
returns-in_err-checked_mul c =
    let h = c.in_err-checked_mul.ensures in
    let t = too_great c.args.radix c.loop-byte.value c.args.digits.now c.loop-byte.byte-index c.requires c.loop-byte-test.true c.if-byte-ne95.true (λ b. h (omega arith)) in
    rw c.from_residual.ensures (rw c.loop-byte.invariant at t)

pub returns-in_err-value : goal.returns-in_err-value
returns-in_err-value c =
    let h = c.in_err-value.ensures in
    let m = c.in_ok-checked_mul.ensures in
    let t = too_great c.args.radix c.loop-byte.value c.args.digits.now c.loop-byte.byte-index c.requires c.loop-byte-test.true c.if-byte-ne95.true (λ b. h (omega (arith, m))) in
    rw c.from_residual-in_err-value.ensures (rw c.loop-byte.invariant at t)

-- With the next digit the number has too many bits, and so it has with all.
use Rattle.std.proofs.Common.{◌<◌, ◌+◌, ◌-◌, ◌*◌, get_or, arith}
use Rattle.rx_cert_lines.proofs.Numerals.{too_great}
use Rattle.rx_cert_lines.proofs.word.value.Goals as goal

pub returns-then-value-gt4294967295 : goal.returns-then-value-gt4294967295
returns-then-value-gt4294967295 c =
    let v = c.loop-digit.value in let ds = c.args.digits.now in let i = c.loop-digit.digit-index in
    let h : 4294967295 < v * 10 + (get_or ds i 0 - 48) = omega (arith, c.if-value-gt4294967295.true, c.saturating_sub.ensures) in
    let t = too_great v ds i c.loop-digit-test.true h in omega (arith, t, c.loop-digit.invariant)

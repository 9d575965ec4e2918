-- A value of at most 18 digits is small.
use Rattle.std.proofs.Common.{arith, length}
use Rattle.rx_rem_command.proofs.Digits.{few_digits}
use Rattle.rx_rem_command.proofs.numbers.digits.Goals as goal

pub overflow_mul-value : goal.overflow_mul-value
overflow_mul-value c =
    let f = few_digits c.loop-byte.byte-index (length c.args.word.now) c.loop-byte.value c.loop-byte-test.true c.requires c.loop-byte.invariant.small in
    omega arith

pub overflow_add-value : goal.overflow_add-value
overflow_add-value c =
    let f = few_digits c.loop-byte.byte-index (length c.args.word.now) c.loop-byte.value c.loop-byte-test.true c.requires c.loop-byte.invariant.small in
    omega (arith, c.from.ensures, c.type_inv.word c.loop-byte.byte-index)

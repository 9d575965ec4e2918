use Rattle.std.proofs.Common.{rules, arith}
use Rattle.rx_typeck_elaborate_parts.proofs.Stating.{numbers_step}
use Rattle.rx_typeck_elaborate_parts.proofs.told.numbers.Goals as goal

pub loop-number-preserved : goal.loop-number-preserved
loop-number-preserved c =
    numbers_step c.loop-number.all c.push.new.self _ c.loop-number.number c.args.to (omega arith) (search rules) c.loop-number.invariant

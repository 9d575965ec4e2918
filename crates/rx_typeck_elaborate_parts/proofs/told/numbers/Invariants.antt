use Rattle.std.proofs.Common.{◌≡◌, ◌++◌, ◌-◌}
use Rattle.rx_typeck_elaborate_parts.specs.Telling.{numbers_from}
use Rattle.rx_typeck_elaborate_parts.proofs.told.numbers.Given as goal

abbrev pub invariant-loop-number : goal.invariant-loop-number
invariant-loop-number l = l.all ++ numbers_from l.number (l.to - l.number) ≡ numbers_from l.fn.from (l.fn.to - l.fn.from)

use Rattle.std.proofs.Common.{◌≡◌, ◌+◌, ◌<◌, length}
use Rattle.rx_typed.specs.Regions.{lifetimes_among}
use Rattle.rx_typed.specs.Numbers.{capped}
use Rattle.rx_typed.proofs.Loops.{rest}
use Rattle.rx_typed.proofs.numbers.+count.Given as goal

abbrev pub invariant-count_all-loop-part : goal.invariant-count_all-loop-part
invariant-count_all-loop-part l = record {
  whole : capped (l.total + length (lifetimes_among (rest l.parts l.part-index))) ≡ capped (l.fn.before + length (lifetimes_among (rest l.fn.parts 0)));
  fits : l.total < 18446744073709551616;
}

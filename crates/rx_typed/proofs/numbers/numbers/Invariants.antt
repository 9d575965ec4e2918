use Rattle.std.proofs.Common.{◌≡◌, ◌+◌, ◌++◌, drop}
use Rattle.rx_typed.specs.Numbers.{open_among, numbers}
use Rattle.rx_typed.proofs.numbers.numbers.Given as goal

abbrev pub invariant-loop-lifetime : goal.invariant-loop-lifetime
invariant-loop-lifetime l = record {
  numbers : l.all ++ numbers l.from l.next (drop l.lifetime-index l.lifetimes) ≡ numbers l.fn.from l.fn.next l.fn.lifetimes;
  next : l.next + open_among l.from (drop l.lifetime-index l.lifetimes) ≡ l.fn.next + open_among l.fn.from l.fn.lifetimes;
}

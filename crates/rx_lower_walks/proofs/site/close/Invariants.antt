use Rattle.std.proofs.Common.{◌≡◌, ◌++◌, ◌-◌, length, map}
use Rattle.rx_lower_walks.specs.declared.around.Around.{Around}
use Rattle.rx_lower_walks.specs.PlainSite.{plain-Site}
use Rattle.rx_lower_walks.specs.Emitted.{closing, with_open}
use Rattle.rx_lower_walks.proofs.site.close.Given as goal

abbrev pub invariant-loop-turn : goal.invariant-loop-turn
invariant-loop-turn l = record {
  left : length l.opens ≡ length l.fn.opens - l._turn;
  sites : map plain-Site l.out ++ closing l.opens ≡ map plain-Site l.fn.out ++ closing l.fn.opens;
  around : (A : Around) → l.fn.around ≡ with_open l.fn.opens A → l.around ≡ with_open l.opens A;
}

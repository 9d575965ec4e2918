use Rattle.std.proofs.Common.{◌≡◌, ◌++◌, ◌||◌, drop}
use Rattle.rx_lower_walks.specs.Sums.{has, without}
use Rattle.rx_lower_lifetimes.proofs.onward.push_others.Given as goal

abbrev pub invariant-loop-one : goal.invariant-loop-one
invariant-loop-one l = record {
  own : (l.own || has l.number (drop l.one-index l.inner)) ≡ has l.number l.inner;
  others : l.broken ++ without l.number (drop l.one-index l.inner) ≡ l.fn.broken ++ without l.number l.inner;
}

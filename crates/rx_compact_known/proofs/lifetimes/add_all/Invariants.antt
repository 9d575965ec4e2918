use Rattle.std.proofs.Common.{◌≡◌, ◌++◌, drop}
use Rattle.rx_compact_known.proofs.lifetimes.add_all.Given as goal

abbrev pub invariant-loop-lifetime : goal.invariant-loop-lifetime
invariant-loop-lifetime l = l.lifetimes ++ drop l.lifetime-index l.list ≡ l.fn.lifetimes ++ l.fn.list

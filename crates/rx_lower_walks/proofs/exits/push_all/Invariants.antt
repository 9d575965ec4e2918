use Rattle.std.proofs.Common.{◌≡◌, ◌++◌, drop}
use Rattle.rx_lower_walks.proofs.exits.push_all.Given as goal

abbrev pub invariant-loop-one : goal.invariant-loop-one
invariant-loop-one l = l.all ++ drop l.one-index l.more ≡ l.fn.all ++ l.more

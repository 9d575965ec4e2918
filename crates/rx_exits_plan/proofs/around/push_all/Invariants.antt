use Rattle.std.proofs.Common.{◌≡◌, ◌++◌, drop}
use Rattle.rx_exits_plan.proofs.around.push_all.Given as goal

abbrev pub invariant-loop-item : goal.invariant-loop-item
invariant-loop-item l = l.items ++ drop l.item-index l.more ≡ l.fn.items ++ l.fn.more

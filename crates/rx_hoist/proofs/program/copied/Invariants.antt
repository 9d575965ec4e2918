use Rattle.std.proofs.Common.{◌≡◌, ◌++◌, drop}
use Rattle.rx_hoist.proofs.program.copied.Given as goal

abbrev pub invariant-loop-item : goal.invariant-loop-item
invariant-loop-item l = l.all ++ drop l.item-index l.items ≡ l.items

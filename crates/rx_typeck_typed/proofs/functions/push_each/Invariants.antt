use Rattle.std.proofs.Common.{◌≡◌, ◌++◌, drop}
use Rattle.rx_typeck_typed.specs.Items.{one_each}
use Rattle.rx_typeck_typed.proofs.functions.push_each.Given as goal

abbrev pub invariant-loop-bound : goal.invariant-loop-bound
invariant-loop-bound l = l.longs ++ one_each l.lifetime (drop l._bound-index l.bounds)
    ≡ l.fn.longs ++ one_each l.fn.lifetime l.fn.bounds

use Rattle.std.proofs.Common.{◌≡◌, false, replicate}
use Rattle.rx_cover.proofs.inhabitance.none_yet.Given as goal

abbrev pub invariant-loop-item : goal.invariant-loop-item
invariant-loop-item l = l.table.items ≡ replicate l._item false

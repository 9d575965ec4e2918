use Rattle.std.proofs.Common.{◌≡◌, replicate}
use Rattle.rx_typed_declarations.proofs.sizing.ones.Given as goal

abbrev pub invariant-loop-item : goal.invariant-loop-item
invariant-loop-item l = l.ones.items ≡ replicate l._item 1

use Rattle.std.proofs.Common.{◌≡◌, length}
use Rattle.rx_typed_declarations.proofs.invariance.empty_lists.Given as goal

abbrev pub invariant-loop-item : goal.invariant-loop-item
invariant-loop-item l = length l.table.items ≡ l._item

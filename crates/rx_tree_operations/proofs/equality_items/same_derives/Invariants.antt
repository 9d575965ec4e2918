use Rattle.std.proofs.Common.{◌≡◌, ◌↔◌, length, drop}
use Rattle.rx_tree_operations.proofs.equality_items.same_derives.Given as goal

abbrev pub invariant-loop-i : goal.invariant-loop-i
invariant-loop-i l = record {
  len : length l.a ≡ length l.b;
  rest : (drop l.i l.a ≡ drop l.i l.b) ↔ (l.a ≡ l.b);
}

use Rattle.std.proofs.Common.{◌≡◌, ◌↔◌, length, drop}
use Rattle.rx_tree_operations.proofs.Apart.{types_seen}
use Rattle.rx_tree_operations.proofs.equality.+same_types.Given as goal

abbrev pub invariant-same_types-loop-i : goal.invariant-same_types-loop-i
invariant-same_types-loop-i l = record {
  len : length l.a ≡ length l.b;
  rest : (types_seen (drop l.i l.a) ≡ types_seen (drop l.i l.b)) ↔ (types_seen l.a ≡ types_seen l.b);
}

use Rattle.std.proofs.Common.{◌≡◌, ◌↔◌, length, drop, map}
use Rattle.rx_tree.specs.Erase.{erase_label}
use Rattle.rx_tree_operations.proofs.equality.same_labels.Given as goal

abbrev pub invariant-loop-i : goal.invariant-loop-i
invariant-loop-i l = record {
  len : length l.a ≡ length l.b;
  rest : (map erase_label (drop l.i l.a) ≡ map erase_label (drop l.i l.b)) ↔ (map erase_label l.a ≡ map erase_label l.b);
}

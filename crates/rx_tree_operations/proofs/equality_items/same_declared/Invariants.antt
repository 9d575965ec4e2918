use Rattle.std.proofs.Common.{◌≡◌, ◌↔◌, length, drop, map}
use Rattle.rx_tree.specs.Erase.{erase_field}
use Rattle.rx_tree.specs.PlainOf.{plain-Field}
use Rattle.rx_tree_operations.proofs.equality_items.same_declared.Given as goal

abbrev pub invariant-loop-i : goal.invariant-loop-i
invariant-loop-i l = record {
  len : length l.a ≡ length l.b;
  rest : (map erase_field (map plain-Field (drop l.i l.a)) ≡ map erase_field (map plain-Field (drop l.i l.b))) ↔ (map erase_field (map plain-Field l.a) ≡ map erase_field (map plain-Field l.b));
}

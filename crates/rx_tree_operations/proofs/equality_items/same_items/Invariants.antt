use Rattle.std.proofs.Common.{◌≡◌, ◌↔◌, length, drop, map}
use Rattle.rx_tree.specs.Erase.{erase_item}
use Rattle.rx_tree.specs.PlainOf.{plain-Item}
use Rattle.rx_tree_operations.proofs.equality_items.same_items.Given as goal

abbrev pub invariant-loop-i : goal.invariant-loop-i
invariant-loop-i l = record {
  len : length l.a ≡ length l.b;
  rest : (map erase_item (map plain-Item (drop l.i l.a)) ≡ map erase_item (map plain-Item (drop l.i l.b))) ↔ (map erase_item (map plain-Item l.a) ≡ map erase_item (map plain-Item l.b));
}

use Rattle.std.proofs.Common.{◌≡◌, ◌↔◌, length, drop, map}
use Rattle.rx_tree.specs.Erase.{erase_lifetime}
use Rattle.rx_tree_operations.proofs.equality_items.same_lifetimes.Given as goal

abbrev pub invariant-loop-i : goal.invariant-loop-i
invariant-loop-i l = record {
  len : length l.a ≡ length l.b;
  rest : (map erase_lifetime (drop l.i l.a) ≡ map erase_lifetime (drop l.i l.b)) ↔ (map erase_lifetime l.a ≡ map erase_lifetime l.b);
}

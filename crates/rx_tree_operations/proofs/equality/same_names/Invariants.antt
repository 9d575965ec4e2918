use Rattle.std.proofs.Common.{◌≡◌, ◌↔◌, length, drop, map}
use Rattle.rx_tree.specs.Erase.{erase_ident}
use Rattle.rx_tree_operations.proofs.equality.same_names.Given as goal

abbrev pub invariant-loop-i : goal.invariant-loop-i
invariant-loop-i l = record {
  len : length l.a ≡ length l.b;
  rest : (map erase_ident (drop l.i l.a) ≡ map erase_ident (drop l.i l.b)) ↔ (map erase_ident l.a ≡ map erase_ident l.b);
}

use Rattle.std.proofs.Common.{◌≡◌, ◌↔◌, length, drop, map}
use Rattle.rx_tree.specs.Erase.{erase_variant}
use Rattle.rx_tree.specs.PlainOf.{plain-EnumVariant}
use Rattle.rx_tree_operations.proofs.equality_items.same_variants.Given as goal

abbrev pub invariant-loop-i : goal.invariant-loop-i
invariant-loop-i l = record {
  len : length l.a ≡ length l.b;
  rest : (map erase_variant (map plain-EnumVariant (drop l.i l.a)) ≡ map erase_variant (map plain-EnumVariant (drop l.i l.b))) ↔ (map erase_variant (map plain-EnumVariant l.a) ≡ map erase_variant (map plain-EnumVariant l.b));
}

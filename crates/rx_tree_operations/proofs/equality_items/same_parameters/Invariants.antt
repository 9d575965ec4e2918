use Rattle.std.proofs.Common.{◌≡◌, ◌↔◌, length, drop, map}
use Rattle.rx_tree.specs.Erase.{erase_parameter}
use Rattle.rx_tree.specs.PlainOf.{plain-Param}
use Rattle.rx_tree_operations.proofs.equality_items.same_parameters.Given as goal

abbrev pub invariant-loop-i : goal.invariant-loop-i
invariant-loop-i l = record {
  len : length l.a ≡ length l.b;
  rest : (map erase_parameter (map plain-Param (drop l.i l.a)) ≡ map erase_parameter (map plain-Param (drop l.i l.b))) ↔ (map erase_parameter (map plain-Param l.a) ≡ map erase_parameter (map plain-Param l.b));
}

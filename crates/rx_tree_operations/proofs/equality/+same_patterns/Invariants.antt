use Rattle.std.proofs.Common.{◌≡◌, ◌↔◌, length, drop}
use Rattle.rx_tree_operations.proofs.Apart.{patterns_seen, field_patterns_seen}
use Rattle.rx_tree_operations.proofs.equality.+same_patterns.Given as goal

abbrev pub invariant-same_patterns-loop-i : goal.invariant-same_patterns-loop-i
invariant-same_patterns-loop-i l = record {
  len : length l.a ≡ length l.b;
  rest : (patterns_seen (drop l.i l.a) ≡ patterns_seen (drop l.i l.b)) ↔ (patterns_seen l.a ≡ patterns_seen l.b);
}

abbrev pub invariant-same_field_patterns-loop-i : goal.invariant-same_field_patterns-loop-i
invariant-same_field_patterns-loop-i l = record {
  len : length l.a ≡ length l.b;
  rest : (field_patterns_seen (drop l.i l.a) ≡ field_patterns_seen (drop l.i l.b)) ↔ (field_patterns_seen l.a ≡ field_patterns_seen l.b);
}

use Rattle.std.proofs.Common.{◌≡◌, take}
use Rattle.rx_tree_operations.proofs.copying.+copy_patterns.Given as goal

abbrev pub invariant-copy_field_patterns-loop-field : goal.invariant-copy_field_patterns-loop-field
invariant-copy_field_patterns-loop-field l = l.all ≡ take l.field-index l.fields

abbrev pub invariant-copy_patterns-loop-pattern : goal.invariant-copy_patterns-loop-pattern
invariant-copy_patterns-loop-pattern l = l.all ≡ take l.pattern-index l.patterns

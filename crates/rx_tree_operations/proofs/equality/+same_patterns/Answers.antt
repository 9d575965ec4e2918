use Rattle.rx_tree_operations.proofs.Apart.{field_patterns_lengths, pattern_bind_apart, pattern_bool_apart, pattern_int_apart, pattern_make_apart, pattern_tuple_apart, pattern_variant_apart, pattern_wild_apart, patterns_lengths}
use Rattle.rx_tree_operations.proofs.equality.+same_patterns.Goals as goal

pub same_field_patterns-returns-then-a-b : goal.same_field_patterns-returns-then-a-b
same_field_patterns-returns-then-a-b t c = field_patterns_lengths c.args.a.now c.args.b.now c.if-a-b.true

pub same_pattern-returns-in_default : goal.same_pattern-returns-in_default
same_pattern-returns-in_default t c = pattern_wild_apart _ _ c.in-Wild.is c.in_default.not-Wild

pub same_pattern-returns-in_default-node : goal.same_pattern-returns-in_default-node
same_pattern-returns-in_default-node t c = pattern_bind_apart _ _ _ _ c.in-Bind.is c.in_default-node.not-Bind

pub same_pattern-returns-in_default-node-2 : goal.same_pattern-returns-in_default-node-2
same_pattern-returns-in_default-node-2 t c = pattern_int_apart _ _ _ _ _ c.in-Int.is c.in_default-node-2.not-Int

pub same_pattern-returns-in_default-node-3 : goal.same_pattern-returns-in_default-node-3
same_pattern-returns-in_default-node-3 t c = pattern_bool_apart _ _ _ c.in-Bool.is c.in_default-node-3.not-Bool

pub same_pattern-returns-in_default-node-4 : goal.same_pattern-returns-in_default-node-4
same_pattern-returns-in_default-node-4 t c = pattern_tuple_apart _ _ _ c.in-Tuple.is c.in_default-node-4.not-Tuple

pub same_pattern-returns-in_default-node-5 : goal.same_pattern-returns-in_default-node-5
same_pattern-returns-in_default-node-5 t c = pattern_variant_apart _ _ _ _ _ c.in-Variant.is c.in_default-node-5.not-Variant

pub same_pattern-returns-in_default-node-6 : goal.same_pattern-returns-in_default-node-6
same_pattern-returns-in_default-node-6 t c = pattern_make_apart _ _ _ _ c.in-Make.is c.in_default-node-6.not-Make

pub same_patterns-returns-then-a-b : goal.same_patterns-returns-then-a-b
same_patterns-returns-then-a-b t c = patterns_lengths c.args.a.now c.args.b.now c.if-a-b.true

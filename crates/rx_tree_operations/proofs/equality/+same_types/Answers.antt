use Rattle.rx_tree_operations.proofs.Apart.{type_bool_apart, type_kind_apart, type_named_apart, type_ref_apart, type_tuple_apart, types_lengths}
use Rattle.rx_tree_operations.proofs.equality.+same_types.Goals as goal

pub same_type-returns-in_default : goal.same_type-returns-in_default
same_type-returns-in_default t c = type_kind_apart _ _ _ c.in-Kind.is c.in_default.not-Kind

pub same_type-returns-in_default-matches : goal.same_type-returns-in_default-matches
same_type-returns-in_default-matches t c = type_bool_apart _ _ c.in-Bool.is c.in_default-matches.not-Bool

pub same_type-returns-in_default-node : goal.same_type-returns-in_default-node
same_type-returns-in_default-node t c = type_tuple_apart _ _ _ c.in-Tuple.is c.in_default-node.not-Tuple

pub same_type-returns-in_default-node-2 : goal.same_type-returns-in_default-node-2
same_type-returns-in_default-node-2 t c = type_ref_apart _ _ _ _ _ c.in-Ref.is c.in_default-node-2.not-Ref

pub same_type-returns-in_default-node-3 : goal.same_type-returns-in_default-node-3
same_type-returns-in_default-node-3 t c = type_named_apart _ _ _ _ c.in-Named.is c.in_default-node-3.not-Named

pub same_types-returns-then-a-b : goal.same_types-returns-then-a-b
same_types-returns-then-a-b t c = types_lengths c.args.a.now c.args.b.now c.if-a-b.true

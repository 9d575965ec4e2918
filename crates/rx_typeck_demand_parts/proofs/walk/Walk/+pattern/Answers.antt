use Rattle.std.proofs.Common.{rules, refl}
use Rattle.rx_tree.specs.PlainOf.{pattern_make}
use Rattle.rx_tree.proofs.Rules.{pattern_by_node}
use Rattle.rx_typeck_demand_parts.proofs.walk.Walk.+pattern.Goals as goal

pub tuple_pattern-returns : goal.tuple_pattern-returns
tuple_pattern-returns t c =
    let a = c.in_ok-node.ensures in
    (search rules, simp (c.in_ok-tuple_at.ensures, a.0, a.1))

pub variant_pattern-returns : goal.variant_pattern-returns
variant_pattern-returns t c =
    let a = c.in_ok-node.ensures in
    let b = c.entry-names.ensures in
    (search rules, simp (c.in_ok-variant_at.ensures, b.entry, b.walk, a.0, a.1))

pub pattern-returns-in-Make : goal.pattern-returns-in-Make
pattern-returns-in-Make t c =
    simp (pattern_by_node c.args.pattern.now, c.in-Make.is, pattern_make) (simp c.as_slice-in-Make.ensures at c.struct_pattern.ensures)

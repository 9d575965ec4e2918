use Rattle.rx_tree.specs.PlainOf.{pattern_make}
use Rattle.rx_tree.proofs.Rules.{pattern_by_node}
use Rattle.rx_typeck_typed.proofs.lets.Lets.+pattern.Goals as goal

pub pattern-returns-in-Make : goal.pattern-returns-in-Make
pattern-returns-in-Make t c =
    simp (pattern_by_node c.args.pattern.now, c.in-Make.is, pattern_make) (simp c.as_slice-in-Make.ensures at c.struct_pattern.ensures)

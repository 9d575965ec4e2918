-- The equations of plain typed trees, as the tactics take them.
use Rattle.std.proofs.Common.{◌≡◌, ap, sym, ◌∙◌}
use Rattle.rx_typed.specs.declared.tree.Subpattern.{Subpattern}
use Rattle.rx_typed.specs.declared.tree.Expr.{Expr}
use Rattle.rx_typed.specs.declared.tree.Operand.{Operand}
use Rattle.rx_typed.specs.declared.tree.Arm.{Arm}
use Rattle.rx_typed.specs.PlainTree.{plain-Mark, plain-Pattern, plain-Subpattern, plain-Form, plain-Expr, plain-Operand, plain-Arm, subpattern_is, expr_is, operand_is, arm_is, pattern_any, pattern_bind, pattern_exactly, pattern_parts, pattern_variant, pattern_behind, form_read, form_borrow, form_share, form_build, form_unit, form_lazily, form_assign, form_update, form_call, form_input, form_print, form_block, form_choose, form_loop, form_jump, form_give, matched_place, matched_value, stmt_runs, stmt_declares, stmt_lets}

pub subpattern_by_parts : (p : Subpattern) → plain-Subpattern p ≡ (p.field, plain-Pattern p.pattern)
subpattern_by_parts p = subpattern_is p.field p.pattern

pub expr_by_form : (e : Expr) → plain-Expr e ≡ plain-Form e.form (plain-Mark e.mark)
expr_by_form e = expr_is e.mark e.form

pub operand_by_parts : (e : Operand) → plain-Operand e ≡ (e.field, plain-Expr e.value)
operand_by_parts e = operand_is e.field e.value

pub arm_by_parts : (a : Arm) → plain-Arm a ≡ (plain-Pattern a.pattern, plain-Expr a.body)
arm_by_parts a = arm_is a.pattern a.body

pub ruleset typed_pattern_rules = (subpattern_by_parts, pattern_any, pattern_bind, pattern_exactly, pattern_parts, pattern_variant, pattern_behind)

pub ruleset typed_tree_rules = (expr_by_form, operand_by_parts, arm_by_parts, form_read, form_borrow, form_share, form_build, form_unit, form_lazily, form_assign, form_update, form_call, form_input, form_print, form_block, form_choose, form_loop, form_jump, form_give, matched_place, matched_value, stmt_runs, stmt_declares, stmt_lets)

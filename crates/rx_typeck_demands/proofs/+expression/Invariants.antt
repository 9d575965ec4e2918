use Rattle.std.proofs.Common.{◌≡◌, ◌||◌, map, drop}
use Rattle.rx_tree.specs.PlainOf.{plain-Expr, plain-FieldExpr, plain-Arm, plain-Stmt, expressions_of, field_expressions_of, arms_of, statements_of}
use Rattle.rx_typed.specs.declared.nodes.Site.{Site}
use Rattle.rx_typed.specs.Named.{any_diverges, any_field_diverges, some_diverges}
use Rattle.rx_typed.specs.Naming as naming
use Rattle.rx_typeck_typed.specs.Demands as demands
use Rattle.rx_typeck_demand_parts.specs.Matching.{matched_as}
use Rattle.rx_typeck_demand_parts.specs.Walks.{over}
use Rattle.rx_typeck_demands.specs.Pieces as pieces
use Rattle.rx_typeck_demands.proofs.+expression.Given as goal

abbrev pub invariant-values::members-loop-part : goal.invariant-values::members-loop-part
invariant-values::members-loop-part l =
    over (naming.of_expressions Site.Value (expressions_of (map plain-Expr (drop l.part-index l.parts)))) (demands.of_each l.fn.walk.item demands.members l.part-index)
    (pieces.members_behind l.nodes l.diverges) l.walk
    ≡ over (naming.of_expressions Site.Value (expressions_of (map plain-Expr l.fn.parts))) (demands.of_each l.fn.walk.item demands.members 0)
    pieces.members_of l.fn.walk

abbrev pub invariant-values::each-loop-place : goal.invariant-values::each-loop-place
invariant-values::each-loop-place l =
    over (naming.of_expressions l.fn.site (expressions_of (map plain-Expr (drop l.place l.exprs)))) (demands.of_each l.fn.walk.item (pieces.each_as l.fn.listed) l.place)
    (λ es. l.diverges || any_diverges es) l.walk
    ≡ over (naming.of_expressions l.fn.site (expressions_of (map plain-Expr l.fn.exprs))) (demands.of_each l.fn.walk.item (pieces.each_as l.fn.listed) 0) any_diverges l.fn.walk

abbrev pub invariant-values::values_of_fields-loop-field : goal.invariant-values::values_of_fields-loop-field
invariant-values::values_of_fields-loop-field l =
    over (naming.of_fields (field_expressions_of (map plain-FieldExpr (drop l.field-index l.fields)))) (demands.of_fields l.fn.walk.item l.fn.item)
    (λ fs. l.diverges || any_field_diverges fs) l.walk
    ≡ over (naming.of_fields (field_expressions_of (map plain-FieldExpr l.fn.fields))) (demands.of_fields l.fn.walk.item l.fn.item) any_field_diverges l.fn.walk

abbrev pub invariant-branches::each_arm-loop-arm : goal.invariant-branches::each_arm-loop-arm
invariant-branches::each_arm-loop-arm l =
    over (naming.of_arms (naming.passed_on l.fn.node.site) (arms_of (map plain-Arm (drop l.arm-index l.arms)))) (demands.of_arms l.fn.walk.item l.fn.node (matched_as l.fn.with) l.fn.of)
    (pieces.ways_behind l.never l.diverges) l.walk
    ≡ over (naming.of_arms (naming.passed_on l.fn.node.site) (arms_of (map plain-Arm l.fn.arms))) (demands.of_arms l.fn.walk.item l.fn.node (matched_as l.fn.with) l.fn.of)
    pieces.ways_of l.fn.walk

abbrev pub invariant-statements::statements-loop-stmt : goal.invariant-statements::statements-loop-stmt
invariant-statements::statements-loop-stmt l =
    over (naming.of_statements (statements_of (map plain-Stmt (drop l.stmt-index l.stmts)))) (demands.of_statements l.fn.walk.item)
    (λ ss. l.diverges || some_diverges ss) l.walk
    ≡ over (naming.of_statements (statements_of (map plain-Stmt l.fn.stmts))) (demands.of_statements l.fn.walk.item) some_diverges l.fn.walk

use Rattle.std.proofs.Common.{◌≡◌, ◌++◌, [], ◌∷◌, ap, refl, arith}
use Rattle.rx_tree.specs.PlainOf.{plain-Expr, expression_int, expression_bool, expression_tuple, expression_var, expression_call, expression_nextinput, expression_make, expression_break, expression_continue, expression_return}
use Rattle.rx_tree.proofs.Rules.{expression_by_node, block_by_parts, field_expression_by_parts}
use Rattle.rx_typeck_elaborate_parts.proofs.Next.{next_expression, next_body}
use Rattle.rx_typeck_demand_parts.proofs.Later.{pattern_later}
use Rattle.rx_typeck_demand_parts.proofs.Placed.{through_here}
use Rattle.rx_typeck_demands.proofs.Ways.{or_false, and_false, each_nothing}
use Rattle.rx_typeck_demands.proofs.Turns.{statement_walked, field_walked, arm_walked}
use Rattle.rx_typeck_demand_parts.specs.Matching.{matched_as}
use Rattle.rx_typeck_demands.proofs.Counts.{arguments_counted, field_values_named}
use Rattle.rx_typeck_demands.proofs.Arms.{assign_walks, update_walks, block_walks, if_walks, if_let_walks, match_walks}
use Rattle.rx_typeck_typed.specs.Asking.{type_of}
use Rattle.rx_typeck_demand_parts.specs.Places.{through_at}
use denote.Param.Weighed.{most}
use Rattle.rx_tree.proofs.tree.Arm.TheLaws as arm
use Rattle.rx_typeck_demands.proofs.Depths.{match_deeper}
use Rattle.rx_typeck_demands.proofs.Members.{member_walked}
use Rattle.rx_typeck_demands.proofs.+expression.Goals as goal

pub expressions::form-returns-in-Call : goal.expressions::form-returns-in-Call
expressions::form-returns-in-Call t c =
    simp (expression_by_node c.args.expr.now, c.in-Call.is, expression_call) (simp c.as_slice-in-Call.ensures at c.call.ensures)

pub expressions::form-returns-in-Make : goal.expressions::form-returns-in-Make
expressions::form-returns-in-Make t c =
    simp (expression_by_node c.args.expr.now, c.in-Make.is, expression_make) (simp c.as_slice-in-Make.ensures at c.make.ensures)

pub expressions::form-returns-in-Block : goal.expressions::form-returns-in-Block
expressions::form-returns-in-Block t c =
    block_walks c.args.minus c.args.site c.args.expr.now c.in-Block.inner c.get-in-Block.result.now c.args.walk.now c.block.new.walk c.block.result c.in-Block.is c.get-in-Block.ensures c.block.ensures

pub expressions::form-returns-in_ok-left-in-Assign : goal.expressions::form-returns-in_ok-left-in-Assign
expressions::form-returns-in_ok-left-in-Assign t c =
    assign_walks c.args.minus c.args.site c.args.expr.now c.in-Assign.place c.in-Assign.value c.args.walk.now c.node-in-Assign.new.self c.left_side.new.walk c.assign.new.walk
    c.in_ok-node-in-Assign.node c.in_ok-left-in-Assign.left c.assign.result c.in-Assign.is c.in_ok-node-in-Assign.ensures
    (simp c.get-in-Assign.ensures at c.in_ok-left-in-Assign.ensures) (simp (c.get-in-Assign-2.ensures, c.get-in-Assign-3.ensures) at c.assign.ensures)

pub expressions::form-returns-in_ok-value-in-Update : goal.expressions::form-returns-in_ok-value-in-Update
expressions::form-returns-in_ok-value-in-Update t c =
    update_walks c.args.minus c.args.site c.args.expr.now c.in-Update.field-0 c.in-Update.place c.in-Update.value c.args.walk.now c.node-in-Update.new.self
    c.expression-in-Update.new.walk c.expression-in-Update-2.new.walk c.update.new.walk c.in_ok-node-in-Update.node c.in_ok-updated-in-Update.updated c.in_ok-value-in-Update.value
    c.update.result c.in-Update.is c.in_ok-node-in-Update.ensures (simp c.get-in-Update.ensures at c.in_ok-updated-in-Update.ensures)
    (simp c.get-in-Update-2.ensures at c.in_ok-value-in-Update.ensures) (simp c.get-in-Update-3.ensures at c.update.ensures)

pub expressions::form-returns-in_ok-body-in-If : goal.expressions::form-returns-in_ok-body-in-If
expressions::form-returns-in_ok-body-in-If t c =
    if_walks c.args.minus c.args.site c.args.expr.now c.in-If.test c.in-If.body c.in-If.rest c.args.walk.now c.node-in-If.new.self c.condition.new.walk c.branch-walk.new.walk
    c.other.new.walk c.in_ok-node-in-If.node c.is_there.result c.in_ok-test-in-If.test c.in_ok-body-in-If.body c.other.result c.in-If.is c.in_ok-node-in-If.ensures
    (simp c.get-in-If.ensures at c.in_ok-test-in-If.ensures) c.is_there.ensures (simp c.get-in-If-2.ensures at c.in_ok-body-in-If.ensures) c.other.ensures

pub expressions::form-returns-in_ok-body-in-IfLet : goal.expressions::form-returns-in_ok-body-in-IfLet
expressions::form-returns-in_ok-body-in-IfLet t c =
    if_let_walks c.args.minus c.args.site c.args.expr.now c.in-IfLet.pattern c.in-IfLet.value c.in-IfLet.body c.in-IfLet.rest c.args.walk.now c.node-in-IfLet.new.self
    c.scrutinee.new.walk c.branch-walk-in-IfLet.new.walk c.other-in-IfLet.new.walk c.in_ok-node-in-IfLet.node c.is_there-in-IfLet.result c.in_ok-value-in-IfLet.value
    c.in_ok-body-in-IfLet.body c.other-in-IfLet.result c.in-IfLet.is c.in_ok-node-in-IfLet.ensures (simp c.get-in-IfLet.ensures at c.in_ok-value-in-IfLet.ensures)
    c.is_there-in-IfLet.ensures (simp c.get-in-IfLet-2.ensures at c.in_ok-body-in-IfLet.ensures) c.other-in-IfLet.ensures

pub expressions::form-returns-in_ok-seen-in-Match : goal.expressions::form-returns-in_ok-seen-in-Match
expressions::form-returns-in_ok-seen-in-Match t c =
    match_walks c.args.minus c.args.site c.args.expr.now c.in-Match.value c.in-Match.arms c.args.walk.now c.node-in-Match.new.self c.matched_value.new.walk c.all_arms.new.walk
    c.in_ok-node-in-Match.node c.in_ok-seen-in-Match.seen (through_at (plain-Expr c.in-Match.value) c.in_ok-seen-in-Match.seen.node.number) c.all_arms.result c.in-Match.is c.in_ok-node-in-Match.ensures
    (simp c.get-in-Match.ensures at c.in_ok-seen-in-Match.ensures) refl
    (simp (c.as_slice-in-Match.ensures, c.get-in-Match-2.ensures) at c.all_arms.ensures)

pub assignments::assign-returns-in-Some : goal.assignments::assign-returns-in-Some
assignments::assign-returns-in-Some t c = simp c.in-Some.is c.gives.ensures

pub assignments::assign-returns-in-None : goal.assignments::assign-returns-in-None
assignments::assign-returns-in-None t c = simp c.in-None.is c.assigns.ensures

pub statements::let_statement-returns-in-Some : goal.statements::let_statement-returns-in-Some
statements::let_statement-returns-in-Some t c = simp c.in-Some.is c.let_with_value.ensures

pub values::members-loop-part-preserved : goal.values::members-loop-part-preserved
values::members-loop-part-preserved t c =
    let more : c.push.new.self ≡ c.loop-part.nodes ++ type_of c.in_ok-seen.seen.node ∷ [] = cc (c.in_ok-push.ensures.ok, c.type_of.ensures) in
    member_walked c.args.walk.now.item c.args.parts.now c.loop-part.part-index c.part-item.result c.loop-part.nodes c.push.new.self c.loop-part.diverges c.either-diverges.result
    c.in_ok-seen.seen c.loop-part.walk c.member.new.walk _ c.loop-part-test.true c.part-item.is c.in_ok-seen.ensures more c.either-diverges.ensures
    (ap (λ p. p.1.item) c.loop-part.invariant) c.loop-part.invariant

pub expressions::form-all_arms-requires : goal.expressions::form-all_arms-requires
expressions::form-all_arms-requires t c =
    let deeper = match_deeper c.args.expr.now c.in-Match.value c.in-Match.arms c.in-Match.is in
    let same : most arm.the_size c.as_slice-in-Match.result.now ≡ most arm.the_size c.in-Match.arms = ap (most arm.the_size) c.as_slice-in-Match.ensures in
    let bound = c.decreases in
    (omega (arith, deeper, same, bound), tt)

pub expressions::field_step-returns : goal.expressions::field_step-returns
expressions::field_step-returns t c =
    simp (c.part_seen.ensures, c.in_ok-step_at.ensures, c.in_ok-copy.ensures, c.in_ok-place.ensures.0, c.in_ok-place.ensures.1, c.in_ok-node.ensures.0, c.in_ok-node.ensures.1) (refl, refl)

pub expressions::part_step-returns : goal.expressions::part_step-returns
expressions::part_step-returns t c =
    simp (c.part_seen.ensures, c.in_ok-step_at.ensures, c.in_ok-place.ensures.0, c.in_ok-place.ensures.1, c.in_ok-node.ensures.0, c.in_ok-node.ensures.1) (refl, refl)

pub expressions::dereference-returns : goal.expressions::dereference-returns
expressions::dereference-returns t c =
    simp (c.part_seen.ensures, c.in_ok-step_at.ensures, c.in_ok-place.ensures.0, c.in_ok-place.ensures.1, c.in_ok-node.ensures.0, c.in_ok-node.ensures.1) (refl, refl)

pub expressions::form-returns-in-Int : goal.expressions::form-returns-in-Int
expressions::form-returns-in-Int t c =
    simp (expression_by_node c.args.expr.now, c.in-Int.is, expression_int) c.integer.ensures

pub expressions::form-returns-in-Bool : goal.expressions::form-returns-in-Bool
expressions::form-returns-in-Bool t c =
    simp (expression_by_node c.args.expr.now, c.in-Bool.is, expression_bool) c.truth.ensures

pub expressions::form-returns-in-Tuple : goal.expressions::form-returns-in-Tuple
expressions::form-returns-in-Tuple t c =
    simp (expression_by_node c.args.expr.now, c.in-Tuple.is, expression_tuple) (simp c.as_slice.ensures at c.tuple.ensures)

pub expressions::form-returns-in-Var : goal.expressions::form-returns-in-Var
expressions::form-returns-in-Var t c =
    simp (expression_by_node c.args.expr.now, c.in-Var.is, expression_var) c.variable.ensures

pub expressions::form-returns-in-NextInput : goal.expressions::form-returns-in-NextInput
expressions::form-returns-in-NextInput t c =
    simp (expression_by_node c.args.expr.now, c.in-NextInput.is, expression_nextinput) c.next_input.ensures

pub expressions::form-returns-in-Break : goal.expressions::form-returns-in-Break
expressions::form-returns-in-Break t c =
    simp (expression_by_node c.args.expr.now, c.in-Break.is, expression_break) c.break_jump.ensures

pub expressions::form-returns-in-Continue : goal.expressions::form-returns-in-Continue
expressions::form-returns-in-Continue t c =
    simp (expression_by_node c.args.expr.now, c.in-Continue.is, expression_continue) c.continue_jump.ensures

pub expressions::form-returns-in-Return : goal.expressions::form-returns-in-Return
expressions::form-returns-in-Return t c =
    simp (expression_by_node c.args.expr.now, c.in-Return.is, expression_return) c.return_jump.ensures

pub blocks::body_part-returns : goal.blocks::body_part-returns
blocks::body_part-returns t c =
    simp (c.in_ok-part_after.ensures, c.in_ok-seen.ensures.0, c.in_ok-seen.ensures.1, c.in_ok-part_before.ensures, c.next-next.ensures, c.passed_on-site.ensures, next_body) (refl, refl)

pub blocks::unit_body-returns : goal.blocks::unit_body-returns
blocks::unit_body-returns t c =
    simp (c.in_ok-nothing_given.ensures, c.in_ok-seen.ensures.0, c.in_ok-seen.ensures.1) (refl, refl)

pub blocks::body-returns : goal.blocks::body-returns
blocks::body-returns t c =
    simp (
      c.value_seen.ensures,
      c.in_ok-ways.ensures.0,
      c.in_ok-ways.ensures.1,
      c.in_ok-diverges.ensures.0,
      c.in_ok-diverges.ensures.1,
      c.as_slice.ensures,
      c.in_ok-node.ensures.0,
      c.in_ok-node.ensures.1,
      block_by_parts c.args.block.now,
    ) (refl, refl)

pub blocks::tail-returns-in_ok-join-in-Some : goal.blocks::tail-returns-in_ok-join-in-Some
blocks::tail-returns-in_ok-join-in-Some t c =
    simp (c.either-diverges.ensures, c.in_ok-join-in-Some.ensures, c.in_ok-seen-in-Some.ensures.0, c.in_ok-seen-in-Some.ensures.1, c.get.ensures, c.in-Some.is) (refl, refl)

pub blocks::tail-returns-in_ok-join-in-None : goal.blocks::tail-returns-in_ok-join-in-None
blocks::tail-returns-in_ok-join-in-None t c =
    simp (c.in_ok-join-in-None.ensures, c.in_ok-nothing_given-in-None.ensures, c.in-None.is, or_false) (refl, refl)

pub blocks::joined_part-returns : goal.blocks::joined_part-returns
blocks::joined_part-returns t c =
    simp (c.in_ok-part_after.ensures, c.in_ok-seen.ensures.0, c.in_ok-seen.ensures.1, c.in_ok-part_before.ensures, c.next-next.ensures, next_expression) (refl, refl)

pub branches::condition-returns : goal.branches::condition-returns
branches::condition-returns t c =
    simp (c.in_ok-tested.ensures, c.in_ok-seen.ensures.0, c.in_ok-seen.ensures.1) (refl, refl)

pub branches::branch-returns-then-joined : goal.branches::branch-returns-then-joined
branches::branch-returns-then-joined t c =
    simp c.if-joined.true c.body_part.ensures

pub branches::other-returns-in-None : goal.branches::other-returns-in-None
branches::other-returns-in-None t c =
    simp (c.value_seen.ensures, c.in-None.is, and_false, or_false) (refl, refl)

pub branches::other-returns-in_ok-seen-in-Some : goal.branches::other-returns-in_ok-seen-in-Some
branches::other-returns-in_ok-seen-in-Some t c =
    simp (c.in_ok-seen-in-Some.ensures.0, c.in_ok-seen-in-Some.ensures.1, c.in_ok-rest-in-Some.ensures.0, c.in_ok-rest-in-Some.ensures.1, c.passed_on.ensures, c.get.ensures, c.in-Some.is) (
      refl,
      refl,
    )

pub branches::matched_value-returns : goal.branches::matched_value-returns
branches::matched_value-returns t c =
    simp (c.in_ok-not_never.ensures, c.in_ok-seen.ensures.0, c.in_ok-seen.ensures.1) (refl, refl)

pub branches::scrutinee-returns : goal.branches::scrutinee-returns
branches::scrutinee-returns t c =
    simp (
      c.know.ensures,
      c.in_ok-pattern_at.ensures,
      c.type_of.ensures,
      c.as_matched-with.ensures,
      c.as_slice.ensures,
      c.in_ok-passing.ensures,
      c.in_ok-seen.ensures.0,
      c.in_ok-seen.ensures.1,
      c.declared-to.ensures,
      c.in_ok-number_pattern.ensures.0,
      c.in_ok-number_pattern.ensures.1,
      c.declared-from.ensures,
      c.mark-mark.ensures,
      pattern_later,
      through_here,
    ) (refl, refl)

pub branches::all_arms-returns : goal.branches::all_arms-returns
branches::all_arms-returns t c =
    simp (
      c.value_seen.ensures,
      c.either-diverges.ensures,
      c.in_ok-join.ensures,
      c.in_ok-ways.ensures.0,
      c.in_ok-ways.ensures.1,
      c.as_matched-with.ensures,
      c.as_slice.ensures,
      c.in_ok-passing.ensures,
    ) (refl, refl)

pub assignments::assigns-returns : goal.assignments::assigns-returns
assignments::assigns-returns t c =
    simp (
      c.value_seen.ensures,
      c.either-diverges.ensures,
      c.in_ok-own.ensures,
      c.in_ok-assignable.ensures,
      c.in_ok-value.ensures.0,
      c.in_ok-value.ensures.1,
      c.in_ok-expects.ensures,
      c.type_of.ensures,
      c.next-next.ensures,
      next_expression,
    ) (refl, refl)

pub assignments::gives-returns : goal.assignments::gives-returns
assignments::gives-returns t c =
    simp (
      c.value_seen.ensures,
      c.in_ok-own.ensures,
      c.in_ok-given.ensures,
      c.gives_here-pattern.ensures.pattern,
      c.gives_here-pattern.ensures.cursor,
      c.use_of-root.ensures,
      c.in_ok-value.ensures.0,
      c.in_ok-value.ensures.1,
    ) (refl, refl)

pub loops::endless-returns : goal.loops::endless-returns
loops::endless-returns t c =
    simp (
      c.value_seen.ensures,
      c.in_ok-loop_given.ensures,
      c.is_left-left.ensures,
      c.in_ok-unit_body.ensures.0,
      c.in_ok-unit_body.ensures.1,
      c.in_ok-number.ensures.0,
      c.in_ok-number.ensures.1,
      c.in_ok-node.ensures.0,
      c.in_ok-node.ensures.1,
    ) (refl, refl)

pub loops::returned_value-returns : goal.loops::returned_value-returns
loops::returned_value-returns t c =
    simp (c.in_ok-expression.ensures.1, c.in_ok-expects.ensures, c.next-next.ensures, next_expression)

pub statements::lets_typed-returns : goal.statements::lets_typed-returns
statements::lets_typed-returns t c =
    simp (
      c.know.ensures,
      c.in_ok-initialised.ensures,
      c.in_ok-seen.ensures.0,
      c.in_ok-seen.ensures.1,
      c.type_of.ensures,
      c.type_of-2.ensures,
      c.in_ok-typ.ensures.0,
      c.in_ok-typ.ensures.1,
      c.declared-to.ensures,
      c.in_ok-number_pattern.ensures.0,
      c.in_ok-number_pattern.ensures.1,
      c.mark-mark.ensures,
      c.declared-from.ensures,
      c.in_ok-annotate.ensures,
      c.in_ok-node.ensures.0,
      c.in_ok-node.ensures.1,
      pattern_later,
      through_here,
    ) (refl, refl)

pub statements::evaluates-returns : goal.statements::evaluates-returns
statements::evaluates-returns t c =
    simp (c.in_ok-evaluated.ensures, c.in_ok-seen.ensures.0, c.in_ok-seen.ensures.1, c.in_ok-node.ensures.0, c.in_ok-node.ensures.1) (refl, refl)

pub values::member-returns : goal.values::member-returns
values::member-returns t c =
    simp (c.in_ok-not_never.ensures, c.in_ok-seen.ensures.0, c.in_ok-seen.ensures.1) (refl, refl)

pub values::hidden_call-returns : goal.values::hidden_call-returns
values::hidden_call-returns t c =
    simp (c.value_seen.ensures, c.in_ok-diverges.ensures.0, c.in_ok-diverges.ensures.1, c.in_ok-refuse.ensures) (refl, refl)

pub values::function_call-returns : goal.values::function_call-returns
values::function_call-returns t c =
    simp (c.value_seen.ensures, c.in_ok-own.ensures, c.in_ok-diverges.ensures.0, c.in_ok-diverges.ensures.1, c.in_ok-ask_passes.ensures, arguments_counted) (refl, refl)

pub values::variant_of-returns : goal.values::variant_of-returns
values::variant_of-returns t c =
    simp (c.value_seen.ensures, c.in_ok-own.ensures, c.in_ok-diverges.ensures.0, c.in_ok-diverges.ensures.1, c.in_ok-ask_passes.ensures, arguments_counted) (refl, refl)

pub values::made-returns : goal.values::made-returns
values::made-returns t c =
    simp (c.in_ok-own.ensures, c.in_ok-diverges.ensures.0, c.in_ok-diverges.ensures.1, c.in_ok-ask_passes.ensures, c.in_ok-names.ensures, field_values_named) (refl, refl)

pub statements::statements-loop-stmt-preserved : goal.statements::statements-loop-stmt-preserved
statements::statements-loop-stmt-preserved t c =
    statement_walked c.args.walk.now.item c.args.stmts.now c.loop-stmt.stmt-index c.stmt-item.result c.loop-stmt.diverges c.either-diverges.result c.in_ok-one.one c.loop-stmt.walk
    c.statement.new.walk _ c.loop-stmt-test.true c.stmt-item.is c.in_ok-one.ensures c.either-diverges.ensures (ap (λ p. p.1.item) c.loop-stmt.invariant) c.loop-stmt.invariant

pub values::values_of_fields-loop-field-preserved : goal.values::values_of_fields-loop-field-preserved
values::values_of_fields-loop-field-preserved t c =
    field_walked c.args.walk.now.item c.args.item c.args.fields.now c.loop-field.field-index c.field-item.result c.loop-field.diverges c.either-diverges.result c.in_ok-seen.seen
    c.loop-field.walk c.value_of_field.new.walk _ c.loop-field-test.true c.field-item.is c.in_ok-seen.ensures c.either-diverges.ensures (ap (λ p. p.1.item) c.loop-field.invariant)
    c.loop-field.invariant

pub branches::each_arm-loop-arm-preserved : goal.branches::each_arm-loop-arm-preserved
branches::each_arm-loop-arm-preserved t c =
    arm_walked c.args.walk.now.item c.args.node (matched_as c.args.with) c.args.of c.args.arms.now c.loop-arm.arm-index c.arm-item.result c.loop-arm.never c.loop-arm.diverges c.both-never.result
    c.both-diverges.result c.in_ok-seen.seen c.loop-arm.walk c.one_arm.new.walk _ c.loop-arm-test.true c.arm-item.is c.in_ok-seen.ensures c.both-never.ensures c.both-diverges.ensures (ap (λ p.
    p.1.item) c.loop-arm.invariant) c.loop-arm.invariant

pub statements::expected_value-returns : goal.statements::expected_value-returns
statements::expected_value-returns t c =
    simp (c.in_ok-seen.ensures.0, c.in_ok-seen.ensures.1, c.in_ok-expects.ensures, c.next-next.ensures, next_expression) (refl, refl)

pub values::element-returns : goal.values::element-returns
values::element-returns t c =
    simp (c.in_ok-seen.ensures.0, c.in_ok-seen.ensures.1, c.in_ok-each_before.ensures, c.next-next.ensures, next_expression, each_nothing) (refl, refl)

pub values::value_of_field-returns : goal.values::value_of_field-returns
values::value_of_field-returns t c =
    simp (c.in_ok-seen.ensures.0, c.in_ok-seen.ensures.1, c.in_ok-expects.ensures, c.next-next.ensures, c.in_ok-copy.ensures, next_expression, field_expression_by_parts c.args.field.now) (
      refl,
      refl,
    )

use Rattle.std.proofs.Common.{◌+◌, [], ◌∷◌, refl, ap, ◌∙◌, map, drop}
use Rattle.rx_typed.specs.PlainTree.{plain-Expr, plain-Operand, plain-Arm, plain-Matched, plain-Stmt, nested_of, operands_of, arms_of}
use Rattle.rx_exits_plan.specs.Blocks.{bound, declared_by, declared_by_all}
use Rattle.rx_exits_plan.specs.Spots.{with_variables, a_block, a_return, spots, spots_in, spots_matched, spots_armed}
use Rattle.rx_exits_plan.specs.Exits.{spots_in_statements}
use Rattle.rx_exits_plan.specs.PlainSyntax.{plain-Statement, plain-Around, grown}
use Rattle.rx_exits_plan.specs.declared.around.Around as stack
use Rattle.rx_exits_jumps.specs.PlainSought.{plain-Sought, plain-Found}
use Rattle.rx_exits_jumps.specs.Seen.{with_spots}
use Rattle.rx_exits_jumps.proofs.SeenLemmas.{both_seen, two_seen, seen_turn, seen_as, on_same}
use Rattle.rx_exits_jumps.proofs.SeeingLemmas.{lazily_spots, choose_spots, block_spots, given_spots, runs_spots, lets_spots, runs_grown, lets_grown, on_back, operands_next, arms_next, stmts_next, grown_next, arm_seen}
use Rattle.rx_exits_jumps.proofs.seeing.+seeing.Goals as goal

pub see_operands-loop-operand-preserved : goal.see_operands-loop-operand-preserved
see_operands-loop-operand-preserved t c =
    let K = plain-Sought c.args.sought in
    let xs = c.args.operands.now in
    let i = c.loop-operand.operand-index in
    let x = c.operand-item.result in
    let A = plain-Around c.loop-operand.around in
    let rest = operands_of (map plain-Operand (drop (i + 1) xs)) in (
      ap (λ (a : stack.Around). with_spots K (plain-Found c.see.new.found) (spots_in (plain-Around a) rest)) c.in_ok-see.ensures.around
          ∙ seen_turn K (plain-Found c.loop-operand.found) (plain-Found c.see.new.found) _ _ (spots A (plain-Expr x.value)) (spots_in A rest) c.in_ok-see.ensures.found
          (operands_next xs i x A c.loop-operand-test.true c.operand-item.is) c.loop-operand.invariant.0,
      c.in_ok-see.ensures.around ∙ c.loop-operand.invariant.1,
    )

pub see_arms-loop-arm-preserved : goal.see_arms-loop-arm-preserved
see_arms-loop-arm-preserved t c =
    let K = plain-Sought c.args.sought in
    let xs = c.args.arms.now in
    let i = c.loop-arm.arm-index in
    let x = c.arm-item.result in
    let A = plain-Around c.loop-arm.around in
    let rest = arms_of (map plain-Arm (drop (i + 1) xs)) in (
      ap (λ (a : stack.Around). with_spots K (plain-Found c.see_arm.new.found) (spots_armed (plain-Around a) rest)) c.in_ok-see_arm.ensures.around
          ∙ seen_turn K (plain-Found c.loop-arm.found) (plain-Found c.see_arm.new.found) _ _ (spots (with_variables (bound (plain-Arm x).0) A) (plain-Arm x).1) (spots_armed A rest) c.in_ok-see_arm.ensures.found
          (arms_next xs i x A c.loop-arm-test.true c.arm-item.is) c.loop-arm.invariant.0,
      c.in_ok-see_arm.ensures.around ∙ c.loop-arm.invariant.1,
    )

pub see_stmts-loop-stmt-preserved : goal.see_stmts-loop-stmt-preserved
see_stmts-loop-stmt-preserved t c =
    let K = plain-Sought c.args.sought in
    let xs = c.args.stmts.now in
    let i = c.loop-stmt.stmt-index in
    let x = c.stmt-item.result in
    let a = c.loop-stmt.around in
    let rest = map plain-Statement (drop (i + 1) xs) in (
      ap (λ (b : stack.Around). with_spots K (plain-Found c.see_stmt.new.found) (spots_in_statements (plain-Around b) rest)) c.in_ok-see_stmt.ensures.around
          ∙ seen_turn K (plain-Found c.loop-stmt.found) (plain-Found c.see_stmt.new.found) _ _ (spots_in_statements (plain-Around a) (plain-Statement x ∷ []))
          (spots_in_statements (plain-Around (grown a (declared_by (plain-Statement x)))) rest) c.in_ok-see_stmt.ensures.found
          (stmts_next xs i x a c.loop-stmt-test.true c.stmt-item.is) c.loop-stmt.invariant.0,
      ap (λ (b : stack.Around). grown b (declared_by_all rest)) c.in_ok-see_stmt.ensures.around ∙ grown_next xs i x a c.loop-stmt-test.true c.stmt-item.is ∙ c.loop-stmt.invariant.1,
    )

pub see-returns-in_ok-see-in-Lazily-clause-found : goal.see-returns-in_ok-see-in-Lazily-clause-found
see-returns-in_ok-see-in-Lazily-clause-found t c =
    let K = plain-Sought c.args.sought in
    let a = c.args.around.now in
    let l = c.get-in-Lazily.result.now in
    let r = c.get-in-Lazily-2.result.now in
    both_seen K c.see-in-Lazily-2.result (plain-Found c.args.found.now) (plain-Found c.see-in-Lazily.new.found) (plain-Found c.see-in-Lazily-2.new.found)
    (spots (plain-Around a) (plain-Expr l)) (spots (plain-Around c.see-in-Lazily.new.around) (plain-Expr r)) _ c.in_ok-see-in-Lazily.ensures.found
    (lazily_spots a c.see-in-Lazily.new.around c.args.expr.now c.in-Lazily.field-0 c.in-Lazily.left c.in-Lazily.right l r c.in-Lazily.is c.get-in-Lazily.ensures c.get-in-Lazily-2.ensures c.in_ok-see-in-Lazily.ensures.around)
    c.see-in-Lazily-2.ensures.found

pub see-returns-in_ok-see_matched-in-Choose-clause-found : goal.see-returns-in_ok-see_matched-in-Choose-clause-found
see-returns-in_ok-see_matched-in-Choose-clause-found t c =
    let K = plain-Sought c.args.sought in
    let a = c.args.around.now in
    let l = c.as_slice-in-Choose.result.now in
    both_seen K c.see_arms.result (plain-Found c.args.found.now) (plain-Found c.see_matched.new.found) (plain-Found c.see_arms.new.found)
    (spots_matched (plain-Around a) (plain-Matched c.in-Choose.matched)) (spots_armed (plain-Around c.see_matched.new.around) (arms_of (map plain-Arm l))) _ c.in_ok-see_matched-in-Choose.ensures.found
    (choose_spots a c.see_matched.new.around c.args.expr.now c.in-Choose.matched c.in-Choose.arms l c.in-Choose.is c.as_slice-in-Choose.ensures c.in_ok-see_matched-in-Choose.ensures.around)
    c.see_arms.ensures.found

pub see-returns-in_ok-see_stmts-in-Block-clause-found : goal.see-returns-in_ok-see_stmts-in-Block-clause-found
see-returns-in_ok-see_stmts-in-Block-clause-found t c =
    let K = plain-Sought c.args.sought in
    let a = c.args.around.now in
    let s1 = c.as_slice-in-Block.result.now in
    let s2 = c.as_slice-in-Block-2.result.now in
    let tail = c.get-in-Block.result.now in
    let whole = a_block (plain-Around a) c.args.expr.now.mark.node (nested_of (map plain-Stmt s1) (plain-Expr tail)) in
    both_seen K c.see_tail.result (plain-Found c.args.found.now) (plain-Found c.see_stmts.new.found) (plain-Found c.see_tail.new.found)
    (whole ∷ spots_in_statements (plain-Around a) (map plain-Statement s2)) (spots (plain-Around c.see_stmts.new.around) (plain-Expr c.in-Block.tail)) _
    (two_seen K (plain-Found c.args.found.now) (plain-Found c.meet_block.new.found) (plain-Found c.see_stmts.new.found) (whole ∷ []) (spots_in_statements (plain-Around a) (map plain-Statement s2)) _
    c.in_ok-meet_block-in-Block.ensures refl c.in_ok-see_stmts-in-Block.ensures.found)
    (block_spots a c.see_stmts.new.around c.args.expr.now c.in-Block.stmts s1 s2 c.in-Block.tail tail c.in-Block.tail c.in-Block.is c.as_slice-in-Block.ensures c.as_slice-in-Block-2.ensures c.get-in-Block.ensures refl
    c.in_ok-see_stmts-in-Block.ensures.around)
    c.see_tail.ensures.found

pub see-returns-in_ok-see_stmts-in-Block-clause-around : goal.see-returns-in_ok-see_stmts-in-Block-clause-around
see-returns-in_ok-see_stmts-in-Block-clause-around t c =
    on_back c.see_tail.result c.args.around.now c.see_stmts.new.around c.see_tail.new.around c.len-kept.result _ c.len-kept.ensures c.in_ok-see_stmts-in-Block.ensures.around c.see_tail.ensures.around

pub see_given-returns-clause-found : goal.see_given-returns-clause-found
see_given-returns-clause-found t c =
    let K = plain-Sought c.args.sought in
    let a = c.args.around.now in
    let e = c.get.result.now in
    both_seen K c.meet_return.result (plain-Found c.args.found.now) (plain-Found c.see.new.found) (plain-Found c.meet_return.new.found)
    (spots (plain-Around a) (plain-Expr e)) (a_return (plain-Around c.see.new.around) c.args.node ∷ []) _ c.in_ok-see.ensures.found
    (given_spots a c.see.new.around c.args.node c.args.value.now e c.get.ensures c.in_ok-see.ensures.around)
    c.meet_return.ensures

pub see_stmt-returns-in-Runs-clause-found : goal.see_stmt-returns-in-Runs-clause-found
see_stmt-returns-in-Runs-clause-found t c =
    seen_as (plain-Sought c.args.sought) c.see.result (plain-Found c.args.found.now) (plain-Found c.see.new.found) _ _ (runs_spots (plain-Around c.args.around.now) c.args.stmt.now c.in-Runs.expr c.in-Runs.is) c.see.ensures.found

pub see_stmt-returns-in-Lets-clause-found : goal.see_stmt-returns-in-Lets-clause-found
see_stmt-returns-in-Lets-clause-found t c =
    seen_as (plain-Sought c.args.sought) c.see_let.result (plain-Found c.args.found.now) (plain-Found c.see_let.new.found) _ _
    (lets_spots (plain-Around c.args.around.now) c.args.stmt.now c.in-Lets.field-0 c.in-Lets.pattern c.in-Lets.matched c.in-Lets.is) c.see_let.ensures.found

pub see_stmt-returns-in-Runs-clause-around : goal.see_stmt-returns-in-Runs-clause-around
see_stmt-returns-in-Runs-clause-around t c =
    on_same c.see.result c.see.new.around c.args.around.now _ (runs_grown c.args.around.now c.args.stmt.now c.in-Runs.expr c.in-Runs.is) c.see.ensures.around

pub see_stmt-returns-in-Lets-clause-around : goal.see_stmt-returns-in-Lets-clause-around
see_stmt-returns-in-Lets-clause-around t c =
    on_same c.see_let.result c.see_let.new.around _ _ (lets_grown c.args.around.now c.args.stmt.now c.in-Lets.field-0 c.in-Lets.pattern c.in-Lets.matched c.in-Lets.is) c.see_let.ensures.around

pub see_arm-returns-clause-found : goal.see_arm-returns-clause-found
see_arm-returns-clause-found t c =
    arm_seen (plain-Sought c.args.sought) (plain-Found c.args.found.now) (plain-Found c.see.new.found) c.args.around.now c.push_bound.new.variables c.args.arm.now
    c.in_ok-push_bound.ensures c.in_ok-see.ensures.found

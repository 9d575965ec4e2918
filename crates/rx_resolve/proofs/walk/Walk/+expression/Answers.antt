use Rattle.std.proofs.Common.{[], map, length, option_map, ap, sym, ◌∙◌}
use Rattle.rx_tree.specs.declared.tree.Block.{out-Block}
use Rattle.rx_tree.specs.Plain as plain
use Rattle.rx_tree.specs.PlainOf.{plain-Expr, plain-Block, plain-Stmt, statements_of, optional_of}
use Rattle.rx_tree.proofs.Rules.{block_by_parts}
use Rattle.rx_resolve.specs.declared.walk.Walk.{Walk}
use Rattle.rx_resolve_names.specs.Meant.{number}
use Rattle.rx_resolve_names.specs.Steps.{child}
use Rattle.rx_resolve_names.specs.Names.{in_expression, in_block}
use Rattle.rx_resolve.specs.Walks.{inside, around_from}
use Rattle.rx_resolve.proofs.walk.Walk.+expression.Goals as goal
use Rattle.rx_core.proofs.Results.{ok_is}
use Rattle.rx_resolve.proofs.ScopeLemmas.{bound_left, block_done, block_left, statements_counted}

pub bound_block-returns : goal.bound_block-returns
bound_block-returns t c =
    let enter = ok_is _ c.enter_all.new.self c.in_ok-enter_all.ensures in
    let walk = c.in_ok-child_block.ensures in (
      ap (λ (w : Walk). in_block (inside w) w.scope (around_from [] w.around) (child w.path c.args.child) (plain-Block c.args.block.now) w.tables) enter ∙ walk.0,
      bound_left c.args.self.now c.enter_all.new.self c.child_block.new.self c.args.bindings c.len-outer.result c.leave.new.self c.len-outer.ensures enter walk.1 c.leave.ensures,
    )

pub bound_expression-returns : goal.bound_expression-returns
bound_expression-returns t c =
    let enter = ok_is _ c.enter_all.new.self c.in_ok-enter_all.ensures in
    let walk = c.in_ok-child_expression.ensures in (
      ap (λ (w : Walk). in_expression (inside w) w.scope (around_from [] w.around) (child w.path c.args.child) (plain-Expr c.args.expr.now) w.tables) enter ∙ walk.0,
      bound_left c.args.self.now c.enter_all.new.self c.child_expression.new.self c.args.bindings c.len-outer.result c.leave.new.self c.len-outer.ensures enter walk.1 c.leave.ensures,
    )

pub block-returns-in-Err : goal.block-returns-in-Err
block-returns-in-Err t c =
    let b = c.args.block.now in
    let first = c.in_ok-statements.ensures in
    let o = optional_of (option_map plain-Expr (out-Block b).tail) in
    λ other. block_done c.args.self.now c.statements.new.self (statements_of (map plain-Stmt c.as_slice.result.now)) (plain-Block b) (out-Block b).span o c.number.result _
    (block_by_parts b ∙ ap (λ l. plain.body (out-Block b).span (statements_of (map plain-Stmt l)) o) (sym c.as_slice.ensures))
    (c.number.ensures ∙ ap number (c.len.ensures ∙ ap length (sym c.as_slice.ensures) ∙ sym (statements_counted c.as_slice.result.now))) first.0 first.1 (c.in-Err.ensures other)

pub block-returns-in-Ok : goal.block-returns-in-Ok
block-returns-in-Ok t c =
    let b = c.args.block.now in
    let first = c.in_ok-statements.ensures in
    let second = c.in-Ok.ensures in
    let o = optional_of (option_map plain-Expr (out-Block b).tail) in (
      block_done c.args.self.now c.statements.new.self (statements_of (map plain-Stmt c.as_slice.result.now)) (plain-Block b) (out-Block b).span o c.number.result _
          (block_by_parts b ∙ ap (λ l. plain.body (out-Block b).span (statements_of (map plain-Stmt l)) o) (sym c.as_slice.ensures))
          (c.number.ensures ∙ ap number (c.len.ensures ∙ ap length (sym c.as_slice.ensures) ∙ sym (statements_counted c.as_slice.result.now))) first.0 first.1 second.0,
      block_left c.args.self.now c.statements.new.self (statements_of (map plain-Stmt c.as_slice.result.now)) c.optional.new.self c.len-outer.result c.leave.new.self c.len-outer.ensures first.0 first.1 second.1 c.leave.ensures,
    )

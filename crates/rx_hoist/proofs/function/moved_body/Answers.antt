use Rattle.std.proofs.Common.{◌≡◌, map, ap}
use Rattle.std.specs.Prelude.{option_map}
use Rattle.rx_tree.specs.declared.tree.Block.{Block}
use Rattle.rx_tree.specs.PlainOf.{plain-Block, plain-Expr, plain-Program, plain-Stmt, optional_of}
use Rattle.rx_hoist_plan.specs.PlainPlan.{plain-Plan}
use Rattle.rx_hoist_extraction.specs.Run.{Parts, numbered}
use Rattle.rx_hoist_extraction.specs.NewBody.{new_body as new_body_of}
use Rattle.rx_hoist_made.specs.PlainParts.{plain-Labels, plain-RunParts}
use Rattle.rx_hoist_made.proofs.Dropped.{ok_map}
use Rattle.rx_hoist_changes.specs.PartsOf.{parts_of}
use Rattle.rx_hoist.proofs.FunctionLemmas.{body_made, tail_now}
use Rattle.rx_hoist.proofs.function.moved_body.Goals as goal

pub returns : goal.returns
returns c =
    let P = plain-Program c.args.program.now in
    let pl = plain-Plan c.args.plan.now in
    let ls = numbered 1 (plain-Labels c.args.labels.now) in
    let run = plain-RunParts c.args.run in
    let given : Parts = record { statements = map plain-Stmt c.args.run.stmts.now; tail = optional_of (option_map (λ e. plain-Expr e.now) c.args.run.tail) } in
    ok_map _ (λ (it : Block). plain-Block it ≡ new_body_of P pl c.args.span ls run) c.new_body.result
    (λ it e. body_made P pl c.args.span ls run given (parts_of (c.in_ok-stmts.stmts, c.in_ok-stmts.tail)) (plain-Block it)
    (ap (λ o. (let p : Parts = record { statements = map plain-Stmt c.args.run.stmts.now; tail = o } in p)) (tail_now c.args.run.tail)) c.in_ok-stmts.ensures e)
    c.new_body.ensures

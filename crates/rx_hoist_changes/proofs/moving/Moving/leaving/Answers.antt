use Rattle.std.proofs.Common.{◌≡◌, map, IfOk, ap, ◌∙◌, subst}
use Rattle.rx_tree.specs.Plain as plain
use Rattle.rx_tree.specs.PlainOf.{plain-Expr}
use Rattle.rx_hoist_plan.specs.PlainPlan.{plain-Plan, plain-Exit, plain-Leaving}
use Rattle.rx_hoist_extraction.specs.Plan.{enum_name, exit_name, names_of, outs_of}
use Rattle.rx_hoist_extraction.specs.Made.{variant}
use Rattle.rx_hoist_changes.proofs.moving.Moving.leaving.Goals as goal

pub returns : goal.returns
returns c =
    let r = c.args.self.now.run in
    let pl = plain-Plan c.args.self.now.plan.now in
    let x = plain-Exit c.args.exit in
    subst (λ es. IfOk c.return_of.result (λ it. plain-Expr it ≡ plain.return r (plain.present (variant r (enum_name pl) (exit_name x) es))))
    (c.in_ok-outs.ensures ∙ ap (λ vs. map (plain.var r) (names_of vs)) (c.outs_of.ensures ∙ ap (λ l. outs_of x (map plain-Leaving l)) c.as_slice.ensures))
    (c.return_of.ensures _ c.variant.ensures)

use Rattle.std.proofs.Common.{sym, ◌∙◌}
use Rattle.rx_tree.specs.PlainOf.{plain-Expr, plain-Program}
use Rattle.rx_typed.specs.PlainTypes.{plain-Ty}
use Rattle.rx_hoist_plan.specs.PlainPlan.{plain-Plan}
use Rattle.rx_hoist_made.proofs.Dropped.{ok_map}
use Rattle.rx_hoist_items.proofs.Ends.{tupled}
use Rattle.rx_hoist_items.proofs.body.in_tuple.Goals as goal

pub returns : goal.returns
returns c =
    let same = tupled (plain-Program c.args.program.now) (plain-Plan c.args.plan.now) c.args.span (plain-Ty c.args.ty.now) (plain-Expr c.args.value)
    c.args.outs.now c.is_empty.result c.is_empty.ensures c.if-is_empty.false in
    ok_map _ _ c.tupled.result (λ it h. h ∙ sym same) c.tupled.ensures

use Rattle.rx_typed.specs.PlainTree.{plain-Expr, plain-Mark}
use Rattle.rx_exits_plan.specs.PlainPlan.{plain-Run}
use Rattle.rx_exits_tree.proofs.RunBlock.{alone_laid}
use Rattle.rx_exits_tree.proofs.alone.run_alone.Goals as goal

pub returns : goal.returns
returns c =
    alone_laid (plain-Run c.args.run) c.args.all.now (plain-Expr c.args.last.now) c.new-2.result c.in_ok-body.body (plain-Mark c.at_node.result) (plain-Mark c.at_node-2.result) (plain-Expr c.unit_of.result)
    c.inside.result.now c.new.result c.in_ok-copies.copies c.in_ok-copies-2.copies
    c.new-2.ensures c.in_ok-body.ensures c.at_node.ensures c.unit_of.ensures c.at_node-2.ensures c.inside.ensures c.new.ensures c.in_ok-copies.ensures (c.in_ok-copies-2.ensures c.args.all.now)

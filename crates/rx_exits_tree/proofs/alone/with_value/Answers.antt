use Rattle.std.proofs.Common.{◌≡◌}
use Rattle.rx_typed.specs.PlainTree.{plain-Expr}
use Rattle.rx_exits_plan.specs.PlainPlan.{plain-Run}
use Rattle.rx_exits_plan.specs.Blocks.{written_tail}
use Rattle.rx_exits_plan.specs.Changed.{changed}
use Rattle.rx_exits_tree.specs.Changing.{keeping}
use Rattle.rx_exits_tree.proofs.RunBlock.{value_behind}
use Rattle.rx_exits_tree.proofs.Turns.{of_value}
use Rattle.rx_exits_tree.proofs.alone.with_value.Goals as goal

pub returns-in_ok-value : goal.returns-in_ok-value
returns-in_ok-value c all =
    value_behind (plain-Run c.args.run) all (plain-Expr c.args.last.now) c.args.held c.in_ok-value.held c.in_ok-value.value c.runs_behind.result c.if-run.true
    (of_value (λ it. plain-Expr it ≡ changed keeping (written_tail c.args.run.block (plain-Expr c.args.last.now))) c.value_of.result c.in_ok-value.value c.in_ok-value.ensures.0 c.value_of.ensures)
    c.in_ok-value.ensures.1 c.runs_behind.ensures

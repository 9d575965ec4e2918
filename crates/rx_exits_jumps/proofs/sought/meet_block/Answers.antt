use Rattle.rx_typed.specs.PlainTree.{plain-Expr}
use Rattle.rx_exits_plan.specs.PlainSyntax.{plain-Around}
use Rattle.rx_exits_jumps.proofs.MeetingLemmas.{home_added, other_node, no_run}
use Rattle.rx_exits_jumps.proofs.sought.meet_block.Goals.{else-node-run-via-then-node-run+else-has_run, else-node-run-via-else-node-run}
use Rattle.rx_exits_jumps.proofs.sought.meet_block.Goals as goal

pub returns-in_ok-push-in-Blocks : goal.returns-in_ok-push-in-Blocks
returns-in_ok-push-in-Blocks c =
    home_added c.args.sought c.in-Blocks.run' c.args.found.now c.push.new.self c.in_ok-home-in-Blocks.home (plain-Around c.args.around.now) c.args.node c.args.stmts.now (plain-Expr c.args.tail.now)
    c.has_run.result c.in-Blocks.is c.if-node-run.true c.has_run.ensures c.if-has_run.true c.in_ok-push-in-Blocks.ensures.ok c.in_ok-home-in-Blocks.ensures

pub returns-else-node-run : goal.returns-else-node-run
returns-else-node-run c =
    elim c.else-node-run.branch [
      | else-node-run-via-then-node-run+else-has_run w ↦ no_run c.args.sought c.in-Blocks.run' c.args.found.now (plain-Around c.args.around.now) c.args.node c.args.stmts.now (plain-Expr c.args.tail.now)
          w.has_run.result c.in-Blocks.is w.has_run.ensures w.if-has_run.false
      | else-node-run-via-else-node-run w ↦ other_node c.args.sought c.in-Blocks.run' c.args.found.now (plain-Around c.args.around.now) c.args.node c.args.stmts.now (plain-Expr c.args.tail.now)
          c.in-Blocks.is w.if-node-run.false
    ]

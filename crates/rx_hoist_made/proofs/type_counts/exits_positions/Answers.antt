use Rattle.std.proofs.Common.{◌≡◌, arith}
use Rattle.rx_tree.specs.PlainOf.{plain-Program}
use Rattle.rx_hoist_plan.specs.PlainPlan.{plain-Plan}
use Rattle.rx_hoist_made.proofs.CountLemmas.{exit_here}
use Rattle.rx_hoist_made.proofs.type_counts.exits_positions.Goals as goal

pub loop-leaving-preserved : goal.loop-leaving-preserved
loop-leaving-preserved c =
    let here = exit_here (plain-Program c.args.program.now) (plain-Plan c.args.plan.now) c.args.exits.now c.loop-leaving.leaving-index c.leaving-item.result
    c.loop-leaving-test.true c.leaving-item.is in
    record {
      same = omega (arith, here, c.loop-leaving.invariant.same, c.exit_positions.ensures, c.saturating_add-total.ensures);
      small = omega (arith, c.saturating_add-total.ensures);
    }

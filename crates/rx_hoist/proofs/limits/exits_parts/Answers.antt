use Rattle.std.proofs.Common.{arith}
use Rattle.rx_typed_declarations.specs.Sizes.{told}
use Rattle.rx_hoist_plan.specs.PlainPlan.{plain-Plan}
use Rattle.rx_hoist_made.specs.PlainHanded.{plain-Handed}
use Rattle.rx_hoist.proofs.PartLemmas.{exit_here}
use Rattle.rx_hoist.proofs.limits.exits_parts.Goals as goal

pub loop-leaving-preserved : goal.loop-leaving-preserved
loop-leaving-preserved c =
    let here = exit_here (told c.args.sizes.now) (plain-Plan c.args.plan.now) c.args.exits.now c.loop-leaving.leaving-index c.leaving-item.result (plain-Handed c.handed_by.result)
    c.loop-leaving-test.true c.leaving-item.is c.handed_by.ensures in
    record {
      same = omega (arith, here, c.loop-leaving.invariant.same, c.with_handed-total.ensures);
      small = omega (arith, c.with_handed-total.ensures);
    }

use Rattle.std.proofs.Common.{None, Some}
use Rattle.rx_hoist_plan.specs.PlainPlan.{plain-Plan}
use Rattle.rx_hoist_made.specs.PlainHanded.{plain-Handed}
use Rattle.rx_hoist.proofs.LevelLemmas.{exits_left}
use Rattle.rx_hoist.proofs.levels.fields_past.Goals as goal

pub loop-leaving-preserved : goal.loop-leaving-preserved
loop-leaving-preserved c =
    exits_left (plain-Plan c.args.plan.now) c.args.exits.now c.loop-leaving.leaving-index c.leaving-item.result (plain-Handed c.handed_by.result) None _
    c.loop-leaving-test.true c.leaving-item.is c.handed_by.ensures c.in-None.ensures c.loop-leaving.invariant

pub returns-in-Some : goal.returns-in-Some
returns-in-Some c =
    exits_left (plain-Plan c.args.plan.now) c.args.exits.now c.loop-leaving.leaving-index c.leaving-item.result (plain-Handed c.handed_by.result) (Some c.in-Some.count) _
    c.loop-leaving-test.true c.leaving-item.is c.handed_by.ensures c.in-Some.ensures c.loop-leaving.invariant

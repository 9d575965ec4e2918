use Rattle.rx_hoist_plan.specs.PlainPlan.{plain-Plan}
use Rattle.rx_splice_edits.specs.Placing.{end_by_parts}
use Rattle.rx_splice_edits.proofs.text.edits_of.Goals as goal

pub returns : goal.returns
returns c = c.run_edits.ensures (end_by_parts c.args.place.now (plain-Plan c.args.plan.now)) c.requires.ended

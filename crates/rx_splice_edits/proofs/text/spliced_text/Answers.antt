use Rattle.rx_hoist_plan.specs.PlainPlan.{plain-Plan}
use Rattle.std.proofs.lemmas.Result.{IfOk-weaker}
use Rattle.rx_splice_edits.proofs.Whole.{told_some, by_parts}
use Rattle.rx_splice_edits.proofs.text.spliced_text.Goals as goal

pub returns : goal.returns
returns c r f bs p i =
    IfOk-weaker c.text_by_parts.result _ _ (λ o h. told_some o _ _ _ (λ t. by_parts c.args.place.now (plain-Plan c.args.plan.now) r f bs c.args.made p i t) h) c.text_by_parts.ensures

use Rattle.std.proofs.Common.{codes}
use Rattle.std.proofs.lemmas.Result.{on_ok_weaker}
use Rattle.rx_hoist_plan.specs.PlainPlan.{plain-Plan}
use Rattle.rx_hoist_extraction.specs.Plan.{enum_name}
use Rattle.rx_splice_edits.proofs.Words.{variant_then}
use Rattle.rx_splice_edits.proofs.moving.Moving.push_handing_over.Goals as goal

pub returns : goal.returns
returns c =
    on_ok_weaker c.push.result
    (variant_then c.args.text.now c.push_variant.new.out c.push.new.self (enum_name (plain-Plan c.args.self.now.decided.plan.now)) (codes "Return")
    (codes "(")
    c.in_ok-push_variant.ensures)
    c.push.ensures.ok

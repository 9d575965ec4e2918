use Rattle.std.proofs.Common.{refl}
use Rattle.rx_hoist_plan.specs.PlainPlan.{plain-Plan}
use Rattle.rx_splice_edits.specs.Ending.{next_names}
use Rattle.rx_splice_edits.proofs.EndLemmas.{closing_put}
use Rattle.rx_splice_edits.proofs.run_end.in_variant.Goals as goal

pub returns : goal.returns
returns c = (c.in_ok-before.ensures, closing_put (next_names (plain-Plan c.args.plan.now)) c.in_ok-behind.behind c.in_ok-behind.ensures, refl)

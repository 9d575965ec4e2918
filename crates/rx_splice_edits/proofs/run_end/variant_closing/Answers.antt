use Rattle.std.proofs.Common.{map, ap, ◌∙◌}
use Rattle.rx_hoist_plan.specs.PlainPlan.{plain-Plan, plain-Leaving}
use Rattle.rx_hoist_extraction.specs.Plan.{to_next, outs_of, names_of}
use Rattle.rx_splice_edits.specs.Ending.{next_names}
use Rattle.rx_splice_edits.proofs.Words.{names_in}
use Rattle.rx_splice_edits.proofs.EndLemmas.{closing_written}
use Rattle.rx_splice_edits.proofs.run_end.variant_closing.Goals as goal

pub returns : goal.returns
returns c =
    closing_written c.empty-text.result c.push_more.new.out c.push.new.self (names_in c.outs_of.result.now) (next_names (plain-Plan c.args.plan.now))
    c.empty-text.ensures c.in_ok-push_more.ensures
    (ap names_of (c.outs_of.ensures ∙ ap (λ l. outs_of to_next (map plain-Leaving l)) c.as_slice.ensures)) c.in_ok-push.ensures.ok

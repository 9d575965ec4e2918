use Rattle.std.proofs.Common.{◌++◌, ap, ◌∙◌}
use Rattle.rx_hoist_plan.specs.PlainPlan.{plain-Plan}
use Rattle.rx_print_spelling.specs.Pieces.{flat}
use Rattle.rx_print_parts.proofs.Written.{written_three}
use Rattle.rx_splice.specs.Edits.{spliced}
use Rattle.rx_splice_laws.specs.Indent.{reindented}
use Rattle.rx_splice_laws.specs.SplicedRun.{between}
use Rattle.rx_splice_laws.specs.SplicedText.{tail_line}
use Rattle.std.proofs.lemmas.Result.{on_ok_weaker}
use Rattle.rx_splice_edits.proofs.Whole.{fits_run}
use Rattle.rx_splice_edits.proofs.text.push_function.Goals as goal

pub push_run-requires : goal.push_run-requires
push_run-requires c = fits_run c.args.place.now (plain-Plan c.args.plan.now) c.args.edits.now c.requires.run c.requires.fits

pub returns : goal.returns
returns c =
    let from = c.args.place.now.run.start in
    let part = between from c.args.place.now.run.end c.args.place.now.text.now in
    let run = c.in_ok-push_run.ensures ∙ ap (λ es. c.push-2.new.self ++ reindented c.args.indent.now (spliced from part es)) c.requires.run in
    let last = c.in_ok-push_last.ensures ∙ ap (λ o. c.push_run.new.out ++ flat (tail_line o)) c.requires.ended.2 in
    on_ok_weaker c.push-3.result (λ e. written_three c.args.out.now c.push.new.self c.push_header.new.out c.push-3.new.self _ _ _ c.in_ok-push.ensures.ok c.in_ok-push_header.ensures
    (written_three c.push_header.new.out c.push_locals.new.out c.push-2.new.self c.push-3.new.self _ _ _ c.in_ok-push_locals.ensures c.in_ok-push-2.ensures.ok
    (written_three c.push-2.new.self c.push_run.new.out c.push_last.new.out c.push-3.new.self _ _ _ run last e))) c.push-3.ensures.ok

use Rattle.std.proofs.Common.{◌++◌, ap, sym, subst, ◌∙◌}
use Rattle.std.specs.Prelude.{IsCharBoundary}
use Rattle.rx_hoist_plan.specs.PlainPlan.{plain-Plan}
use Rattle.rx_splice_edits.proofs.Whole.{zero_cut, fits_front, fits_back, all_written}
use Rattle.rx_splice_edits.specs.Lines.{indent_behind}
use Rattle.rx_splice_edits.proofs.text.text_cut.Goals as goal

pub push_spliced-requires : goal.push_spliced-requires
push_spliced-requires c = fits_front c.args.place.now (plain-Plan c.args.plan.now) c.args.pins.now c.requires.pins c.requires.fits

pub push_spliced-requires-2 : goal.push_spliced-requires-2
push_spliced-requires-2 c = fits_back c.args.place.now (plain-Plan c.args.plan.now) c.args.pins.now c.end_of_body-past.result c.requires.pins c.end_of_body-past.ensures c.requires.fits

pub range_from-requires : goal.range_from-requires
range_from-requires c = λ z. subst (IsCharBoundary c.args.place.now.text.now) (sym c.end_of_body-past.ensures) c.requires.fits.body.ends

pub returns : goal.returns
returns c =
    all_written c.args.place.now (plain-Plan c.args.plan.now) c.args.made c.args.pins.now c.end_of_body-past.result c.indent_behind-indent.result.now
    c.empty-out.result c.push_spliced.new.out c.push_call.new.out c.push_spliced-2.new.out c.push_exits.new.out c.push_function.new.out c.push.new.self
    c.requires.pins c.end_of_body-past.ensures (c.indent_behind-indent.ensures ∙ ap indent_behind (c.range.ensures.value ∙ zero_cut c.args.place.now.run.start c.args.place.now.text.now)) c.empty-out.ensures
    c.in_ok-push_spliced.ensures c.in_ok-push_call.ensures c.in_ok-push_spliced-2.ensures c.in_ok-push_exits.ensures c.in_ok-push_function.ensures
    (c.in_ok-push.ensures.ok ∙ ap (λ x. c.push_function.new.out ++ x) c.range_from.ensures.value)

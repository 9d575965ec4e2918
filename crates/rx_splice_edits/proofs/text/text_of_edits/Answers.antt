use Rattle.std.proofs.Common.{sym, ◌∙◌}
use Rattle.std.proofs.lemmas.Bool.{false≢true}
use Rattle.rx_hoist_plan.specs.PlainPlan.{plain-Plan}
use Rattle.rx_splice_edits.proofs.Whole.{tested, passed}
use Rattle.rx_splice_edits.proofs.text.text_of_edits.Goals as goal

pub returns-then-not-fits : goal.returns-then-not-fits
returns-then-not-fits c =
    λ f. absurd (false≢true (sym c.if-not-fits.true ∙ c.fits.ensures.1
    (passed c.args.place.now (plain-Plan c.args.plan.now) c.end_of_body-past.result c.args.pins.now c.args.edits.now c.end_of_body-past.ensures c.requires.pins c.requires.run f)))

pub text_cut-requires-clause-fits : goal.text_cut-requires-clause-fits
text_cut-requires-clause-fits c =
    tested c.args.place.now (plain-Plan c.args.plan.now) c.end_of_body-past.result c.args.pins.now c.args.edits.now c.requires.ordered c.end_of_body-past.ensures c.requires.pins c.requires.run
    (c.fits.ensures.0 c.if-not-fits.false)

pub returns : goal.returns
returns c = (
  tested c.args.place.now (plain-Plan c.args.plan.now) c.end_of_body-past.result c.args.pins.now c.args.edits.now c.requires.ordered c.end_of_body-past.ensures c.requires.pins c.requires.run
      (c.fits.ensures.0 c.if-not-fits.false),
  c.in_ok-text.ensures,
)

use Rattle.std.proofs.Common.{◌∙◌}
use Rattle.rx_splice_edits.proofs.text.text_by_end.Goals as goal

pub text_of_edits-requires-clause-pins : goal.text_of_edits-requires-clause-pins
text_of_edits-requires-clause-pins c = c.as_slice.ensures ∙ c.in_ok-pins.ensures

pub text_of_edits-requires-clause-run : goal.text_of_edits-requires-clause-run
text_of_edits-requires-clause-run c = c.as_slice-2.ensures ∙ c.in_ok-edits.ensures

use Rattle.rx_splice_edits.proofs.text.pins_of.Goals as goal

pub returns : goal.returns
returns c = c.body_edits.ensures

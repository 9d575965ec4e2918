use Rattle.rx_splice_edits.proofs.pinning.PinningPlaces.let_type.Goals as goal

pub returns : goal.returns
returns c = c.push_type.ensures

use Rattle.rx_splice_edits.proofs.pinning.PinningPlaces.number.Goals as goal

pub returns : goal.returns
returns c = c.push_suffix.ensures

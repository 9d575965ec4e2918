use Rattle.rx_splice_edits.proofs.moving.MovingPlaces.number.Goals as goal

pub returns : goal.returns
returns c = c.push_suffix.ensures

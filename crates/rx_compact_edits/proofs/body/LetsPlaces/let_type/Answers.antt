use Rattle.rx_compact_edits.proofs.body.LetsPlaces.let_type.Goals as goal

pub returns : goal.returns
returns c = c.push_optional.ensures

use Rattle.rx_parse.proofs.OnePlace.{one_place}
use Rattle.rx_parse.proofs.laws.one_place.Goals as goal

pub returns : goal.returns
returns c = one_place

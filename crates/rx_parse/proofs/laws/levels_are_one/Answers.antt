use Rattle.rx_parse.proofs.Whole.{one_level}
use Rattle.rx_parse.proofs.laws.levels_are_one.Goals as goal

pub returns : goal.returns
returns c = one_level

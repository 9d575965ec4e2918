use Rattle.rx_engine_initial.proofs.Exits.{exits_so}
use Rattle.rx_engine_initial.proofs.laws.exits_match.Goals as goal

pub returns : goal.returns
returns c = exits_so

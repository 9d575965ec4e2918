use Rattle.rx_engine_names.proofs.KeptWays.{ways_kept}
use Rattle.rx_engine_names.proofs.laws.ways_are_kept.Goals as goal

pub returns : goal.returns
returns c = ways_kept

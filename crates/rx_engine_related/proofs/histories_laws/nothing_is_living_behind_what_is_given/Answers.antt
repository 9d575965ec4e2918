use Rattle.rx_engine_related.proofs.Closing.{given_dead}
use Rattle.rx_engine_related.proofs.histories_laws.nothing_is_living_behind_what_is_given.Goals as goal

pub returns : goal.returns
returns c = given_dead

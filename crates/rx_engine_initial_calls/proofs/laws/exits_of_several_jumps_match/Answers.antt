use Rattle.rx_engine_initial_calls.proofs.SeveralJumps.{exit_matches}
use Rattle.rx_engine_initial_calls.proofs.laws.exits_of_several_jumps_match.Goals as goal

pub returns : goal.returns
returns c = λ A k plan e exits led S sized acc o R q whole meets. exit_matches A k plan e exits led S sized acc o R q whole meets

use Rattle.rx_engine_related.proofs.Ambiguous.{not_dead}
use Rattle.rx_engine_related.proofs.histories_laws.histories_do_not_tell_what_a_test_gave.Goals as goal

pub returns : goal.returns
returns c = not_dead

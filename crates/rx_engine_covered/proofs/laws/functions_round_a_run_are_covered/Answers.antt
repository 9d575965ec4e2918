use Rattle.rx_engine_covered.proofs.Around.{round_a_run}
use Rattle.rx_engine_covered.proofs.laws.functions_round_a_run_are_covered.Goals as goal

pub returns : goal.returns
returns c = λ r loops apart T T' a run call e f g h k l. round_a_run r loops apart T T' a run call e f g h k l

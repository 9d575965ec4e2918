use Rattle.rx_engine_covered.proofs.Around.{round_a_tail}
use Rattle.rx_engine_covered.proofs.laws.functions_round_a_tail_are_covered.Goals as goal

pub returns : goal.returns
returns c = λ r loops apart T T' a n s d run o call p e i f g h k l. round_a_tail r loops apart T T' a n s d run o call p e i f g h k l

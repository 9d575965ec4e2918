use Rattle.rx_engine_covered.proofs.Functions.{known_before_covered, renumbered_covered}
use Rattle.rx_engine_covered.proofs.laws.renumbered_functions_are_covered.Goals as goal

pub returns-clause-alike : goal.returns-clause-alike
returns-clause-alike c = λ r loops apart T T' a f g h k. renumbered_covered r loops apart T T' a f g h k

pub returns-clause-known_before : goal.returns-clause-known_before
returns-clause-known_before c = λ r loops apart T T' a f g h k. known_before_covered r loops apart T T' a f g h k

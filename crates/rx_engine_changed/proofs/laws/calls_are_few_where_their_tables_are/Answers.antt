use Rattle.rx_engine_changed.proofs.Few.{tables_few}
use Rattle.rx_engine_changed.proofs.laws.calls_are_few_where_their_tables_are.Goals as goal

pub returns : goal.returns
returns k = λ p q m s f r pl u e few. tables_few p q m s f r pl u e few

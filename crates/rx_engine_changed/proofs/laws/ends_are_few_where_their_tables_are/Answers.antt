use Rattle.rx_engine_changed.proofs.Few.{ends_few}
use Rattle.rx_engine_changed.proofs.laws.ends_are_few_where_their_tables_are.Goals as goal

pub returns : goal.returns
returns k = λ p q m s f r pl u past e few. ends_few p q m s f r pl u past e few

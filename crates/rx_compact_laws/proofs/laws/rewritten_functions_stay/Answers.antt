use Rattle.rx_compact_laws.proofs.Staying.{stays}
use Rattle.rx_compact_laws.proofs.laws.rewritten_functions_stay.Goals as goal

pub returns : goal.returns
returns c rs bs p q n s f g w a e = stays rs bs p q n s f g w a e

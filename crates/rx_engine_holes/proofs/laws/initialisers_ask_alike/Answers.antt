use Rattle.rx_engine_holes.proofs.Sited.{value_asks}
use Rattle.rx_engine_holes.proofs.laws.initialisers_ask_alike.Goals as goal

pub returns : goal.returns
returns c = λ g e w z ds. value_asks g e w z ds

use Rattle.rx_engine_initial.proofs.Planned.{text_initialised}
use Rattle.rx_engine_initial.proofs.laws.marked_texts_are_initialised.Goals as goal

pub returns : goal.returns
returns c = text_initialised

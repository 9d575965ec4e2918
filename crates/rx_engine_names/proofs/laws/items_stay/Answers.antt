use Rattle.rx_engine_names.specs.Insertion.{number_there}
use Rattle.rx_engine_names.proofs.KeptItems.{inserted_keeps}
use Rattle.rx_engine_names.proofs.KeptPrograms.{same_item}
use Rattle.rx_engine_names.proofs.laws.items_stay.Goals as goal

pub returns : goal.returns
returns c = λ p q k. same_item (number_there k) p q (inserted_keeps p q k)

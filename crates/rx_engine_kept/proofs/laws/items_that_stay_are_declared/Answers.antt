use Rattle.rx_engine_names.specs.Insertion.{number_there}
use Rattle.rx_engine_names.proofs.KeptItems.{inserted_keeps}
use Rattle.rx_engine_kept.proofs.BothDeclared.{item_there}
use Rattle.rx_engine_kept.proofs.laws.items_that_stay_are_declared.Goals as goal

pub returns : goal.returns
returns c = λ p q i n m it t u d e f h. item_there p q (number_there i) (inserted_keeps p q i) n m it t u d e f h

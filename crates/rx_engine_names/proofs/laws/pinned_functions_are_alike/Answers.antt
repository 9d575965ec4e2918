use Rattle.rx_engine_names.specs.Insertion.{number_there}
use Rattle.rx_engine_names.proofs.KeptItems.{inserted_keeps}
use Rattle.rx_engine_names.proofs.PinnedFunctions.{pinned_function_alike}
use Rattle.rx_engine_names.proofs.laws.pinned_functions_are_alike.Goals as goal

pub returns : goal.returns
returns c = λ p q k ts e place. pinned_function_alike (number_there k) p q (inserted_keeps p q k) ts e place

use Rattle.rx_engine_typing.proofs.Counting.{few_names}
use Rattle.rx_engine_typing.proofs.ScopedFunctions.{item_scoped}
use Rattle.rx_engine_typing.proofs.laws.named_functions_are_scoped.Goals as goal

pub returns : goal.returns
returns c p few j n i s f at t e = item_scoped p n i s f t e (few_names p few n j s f t at e)

use Rattle.std.proofs.Common.{refl}
use Rattle.rx_engine_names.proofs.CalledFunctions.{called_within, called_last}
use Rattle.rx_engine_names.proofs.laws.changed_functions_are_alike.Goals as goal

pub returns : goal.returns
returns c = record {
  within = called_within;
  ending = called_last;
  call = λ p r plan f. refl;
}

use Rattle.rx_typeck_typed.proofs.FunctionsTold.{function_orderly}
use Rattle.rx_typeck_typed.proofs.rules_laws.demands_are_orderly.Goals as goal

pub returns : goal.returns
returns c i s f ns = function_orderly i s f ns

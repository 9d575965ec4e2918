use Rattle.rx_engine_names.proofs.FoundFunctions.{new_function_found}
use Rattle.rx_engine_names.proofs.laws.new_functions_are_found.Goals as goal

pub returns : goal.returns
returns c = new_function_found

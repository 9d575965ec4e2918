use Rattle.rx_engine_validated.proofs.KeptFunctions.{function_kept}
use Rattle.rx_engine_validated.proofs.staying_laws.functions_that_stay_are_renumbered.Goals as goal

pub returns : goal.returns
returns c items n m s f ns ms e h = function_kept items n m s f ns ms e h

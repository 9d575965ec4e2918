use Rattle.rx_engine_initial_typed.proofs.Wrong.{enters_nothing, assigns_again, reads_unset}
use Rattle.rx_engine_initial_typed.proofs.laws.wrong_functions_are_not_initialised.Goals as goal

pub returns : goal.returns
returns c = record { parts = enters_nothing; again = assigns_again; outs = reads_unset }

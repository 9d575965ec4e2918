use Rattle.rx_typed.specs.Naming.{of_statements}
use Rattle.rx_engine_changed.specs.Spots.{spot}
use Rattle.rx_engine_changed.proofs.Handed.{run_fits}
use Rattle.rx_engine_changed.proofs.Spots.{statements_numbered}
use Rattle.rx_engine_changed.proofs.laws.what_stands_for_a_run_fits.Goals as goal

pub returns : goal.returns
returns k = λ E f q G R items agrees follows B ss c d later x a. run_fits E f q G R items agrees follows d later B (spot c) (spot (of_statements ss c).1) x a (statements_numbered ss c)

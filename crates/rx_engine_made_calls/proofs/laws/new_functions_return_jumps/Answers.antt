use Rattle.rx_engine_made_calls.proofs.Jumps.{jump_returns}
use Rattle.rx_engine_made_calls.proofs.laws.new_functions_return_jumps.Goals as goal

pub returns : goal.returns
returns c = λ E q V N W R items gain U others J m f l again x xs e ds p z s leaves leads rows parts h num. jump_returns E q V N W R items gain U others J m f l again ds p z s leaves leads rows parts h num

use Rattle.rx_engine_made_calls.proofs.Ends.{end_gives}
use Rattle.rx_engine_made_calls.proofs.laws.new_functions_hand_out.Goals as goal

pub returns : goal.returns
returns c = λ E q V M N W R f xs o ds p z s handed rows h num parts want. end_gives E q V M N W R f ds p z s handed rows h num parts want

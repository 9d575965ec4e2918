use Rattle.rx_engine_made_calls.proofs.EndCases.{end_case}
use Rattle.rx_engine_made_calls.proofs.laws.new_functions_end_in_shapes.Goals as goal

pub returns : goal.returns
returns c = λ E q V M N W R items gain U others J n outs place rows there nowhere f ds p z s xs ys o is met num parts want. end_case E q V M N W R items gain U others J n outs place rows there nowhere f ds p z s is met num parts want

use Rattle.rx_engine_made_calls.proofs.TailCases.{tail_case}
use Rattle.rx_engine_made_calls.proofs.laws.new_functions_end_tails_in_shapes.Goals as goal

pub returns : goal.returns
returns c = λ E q V M N W R items gain U others J n outs place rows there nowhere f ds p z s e xs ys x o is copies unit reached met num parts want bound. tail_case E q V M N W R items gain U others J n outs place rows there nowhere f ds p z s e is copies unit reached met num parts want bound

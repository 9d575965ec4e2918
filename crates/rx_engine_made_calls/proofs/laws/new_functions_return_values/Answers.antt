use Rattle.rx_engine_made_calls.proofs.Returns.{bare_return, value_return}
use Rattle.rx_engine_made_calls.proofs.laws.new_functions_return_values.Goals as goal

pub returns-clause-bare : goal.returns-clause-bare
returns-clause-bare c = λ S items gain U others J R V n m mu e is r. bare_return S items gain U others J R V n m mu is r

pub returns-clause-value : goal.returns-clause-value
returns-clause-value c = λ S items gain U others J R V n m e g f is unit value gives new copy. value_return S items gain U others J R V n m e is unit value gives new copy
